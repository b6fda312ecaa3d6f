-- The search, a node at a time.
use Rattle.std.proofs.Common.{◌≡◌, ◌∙◌, ℕ, zero, suc, ◌<◌, ◌≤◌, ◌+◌, ◌⊎◌, inl, inr, Bool, true, false, List, [], ◌∷◌, ◌++◌, length, get_or, set, replicate, drop, refl, ap, sym, arith, Some, slice_get, length-append}
use Rattle.std.specs.List.{All, Contains}
use Rattle.std.proofs.lemmas.Bool.{false≢true}
use Rattle.std.proofs.lemmas.List.{length-set, length-replicate, drop_all}
use Rattle.std.proofs.lemmas.List.Elements.{Contains-push, Contains-push_cases, Contains-append_left}
use Rattle.std.proofs.lemmas.Option.{slice_get_within, slice_get-get_or, none-some}
use Rattle.list_laws.proofs.Places.{cases_below, get_front, get_pushed, get_written, get_kept, get_set, drop_at}
use Rattle.list_laws.proofs.Contents.{all_contained, contains_none, contains_get, get_contained, contains_cons}
use Rattle.graph_search.specs.Edges.{targets_of, Edge}
use Rattle.graph_search.specs.Paths.{ReachedFrom, at_start, along, Marked}
use Rattle.shared_search.specs.Lists.{ListsReached}
use Rattle.shared_search.specs.Searches.{Finds, had_mark, had_none, AreListed, FindsAll, IsSearch}
use Rattle.list_laws.proofs.Tests.{count_marked}
use Rattle.graph_search.proofs.SearchLemmas.{old-mark, no-mark, edge-to}

-- ---- one mark more

-- a node without a mark isn't listed
unlisted : (marks : List Bool) (found : List ℕ) (node place : ℕ) → AreListed marks found → slice_get marks node ≡ Some false
    → slice_get found place ≡ Some node → ⊥
unlisted marks found node place are none at = (let is = are.marked place node at in let h : Some false ≡ Some true = sym none ∙ is in absurd (cc))

pushed_place : (xs : List ℕ) (y k x : ℕ) → slice_get (xs ++ y ∷ []) k ≡ Some x → (slice_get xs k ≡ Some x) ⊎ ((k ≡ length xs) × (x ≡ y))
pushed_place [] y zero x is = inr (refl, cc)
pushed_place [] y (suc k) x is = absurd (none-some x is)
pushed_place (z ∷ xs) y zero x is = inl is
pushed_place (z ∷ xs) y (suc k) x is = elim (pushed_place xs y k x is) [ inl earlier ↦ inl earlier | inr last ↦ inr (ap suc last.0, last.1) ]

listed_more : (marks : List Bool) (found : List ℕ) (node : ℕ) → AreListed marks found → slice_get marks node ≡ Some false
    → AreListed (set marks node true) (found ++ node ∷ [])
listed_more marks found node are none = record {
  marked = λ place one stands. elim (get_pushed found node place one stands) [
    | inl earlier ↦ get_kept marks node one true (are.marked place one earlier)
    | inr e ↦ rw e (get_written marks node false true none)
  ];
  listed = λ one m. elim (old-mark marks node one m) [
    | inl earlier ↦ Contains-append_left found (node ∷ []) one (are.listed one earlier)
    | inr e ↦ rw e (Contains-push found node)
  ];
  once = λ i j one at_i at_j. both i j one (pushed_place found node i one at_i) (pushed_place found node j one at_j);
}
  where
    both : (i j one : ℕ) → (slice_get found i ≡ Some one) ⊎ ((i ≡ length found) × (one ≡ node)) → (slice_get found j ≡ Some one) ⊎ ((j ≡ length found) × (one ≡ node)) → i ≡ j
    both i j one (inl at_i) (inl at_j) = are.once i j one at_i at_j
    both i j one (inl at_i) (inr last) = absurd (unlisted marks found node i are none (at_i ∙ ap Some last.1))
    both i j one (inr last) (inl at_j) = absurd (unlisted marks found node j are none (at_j ∙ ap Some last.1))
    both i j one (inr last_i) (inr last_j) = last_i.0 ∙ sym last_j.0

-- ---- finding some nodes

pub finds_none : (marks : List Bool) (found : List ℕ) → FindsAll [] marks marks found found
finds_none marks found = record {
  whole = refl;
  kept = λ node is. is;
  marked = λ node there. absurd (contains_none node there);
  source = λ node is. inl is;
  front = λ place node is. is;
  balance = refl;
  same = λ are. are;
}

pub finds_more : (nodes : List ℕ) (node : ℕ) (m n o : List Bool) (f g h : List ℕ) → FindsAll nodes m n f g → Finds node n o g h
    → FindsAll (nodes ++ node ∷ []) m o f h
finds_more nodes node m n o f g h finds (had_mark is same_marks same_found) = rw (same_marks, same_found) (record {
  whole = finds.whole;
  kept = finds.kept;
  marked = λ one there. elim (Contains-push_cases nodes node one there) [
    | inl earlier ↦ finds.marked one earlier
    | inr e ↦ rw (← e) is
  ];
  source = λ one marked. elim (finds.source one marked) [
    | inl was ↦ inl was
    | inr there ↦ inr (Contains-append_left nodes (node ∷ []) one there)
  ];
  front = finds.front;
  balance = finds.balance;
  same = finds.same;
})
finds_more nodes node m n o f g h finds (had_none is written pushed) = rw (written, pushed) (record {
  whole = length-set n node true ∙ finds.whole;
  kept = λ one marked. get_kept n node one true (finds.kept one marked);
  marked = λ one there. elim (Contains-push_cases nodes node one there) [
    | inl earlier ↦ get_kept n node one true (finds.marked one earlier)
    | inr e ↦ rw (← e) (get_written n node false true is)
  ];
  source = λ one marked. elim (old-mark n node one marked) [
    | inl earlier ↦ elim (finds.source one earlier) [
      | inl was ↦ inl was
      | inr there ↦ inr (Contains-append_left nodes (node ∷ []) one there)
    ]
    | inr e ↦ inr (rw e (Contains-push nodes node))
  ];
  front = λ place one stands. get_front g (node ∷ []) place one (finds.front place one stands);
  balance =
      let count = count_marked n node is in
      let longer = length-append g (node ∷ []) in
      omega (arith, count, longer, finds.balance);
  same = λ are. listed_more n g node (finds.same are) is;
})

-- ---- inside

-- ---- the search

pub search_start : (rows : List (List ℕ)) (starts : List ℕ) (none marks : List Bool) (found : List ℕ) → none ≡ replicate (length rows) false
    → FindsAll starts none marks [] found → IsSearch rows starts marks found
search_start rows starts none marks found unmarked finds =
    let never : (node : ℕ) → ¬ Marked none node = λ node is. no-mark (length rows) node (rw unmarked at is) in
    record {
      whole = finds.whole ∙ ap length unmarked ∙ length-replicate (length rows) false;
      starts_marked = finds.marked;
      are = finds.same (record {
        marked = λ place node stands. absurd (none-some node stands);
        listed = λ node is. absurd (never node is);
        once = λ i j node at_i at_j. absurd (none-some node at_i);
      });
      reached = λ node m. elim (finds.source node m) [ inl was ↦ absurd (never node was) | inr there ↦ at_start node there ];
    }

pub search_more : (rows : List (List ℕ)) (starts : List ℕ) (m n : List Bool) (f g : List ℕ) (from : ℕ) → IsSearch rows starts m f
    → Marked m from → FindsAll (targets_of rows from) m n f g → IsSearch rows starts n g
search_more rows starts m n f g from search is finds = record {
  whole = finds.whole ∙ search.whole;
  starts_marked = λ node there. finds.kept node (search.starts_marked node there);
  are = finds.same search.are;
  reached = λ node marked. elim (finds.source node marked) [
    | inl was ↦ search.reached node was
    | inr there ↦ along from node (search.reached from is) (edge-to rows from node there)
  ];
}

-- the edges of the first nodes that are listed have been followed
pub record IsFollowed (rows : List (List ℕ)) (marks : List Bool) (found : List ℕ) (done : ℕ) : Type 0 where
  pub below : done ≤ length found
  pub closed : (place from to : ℕ) → place < done → slice_get found place ≡ Some from → Edge rows from to → Marked marks to

pub followed_none : (rows : List (List ℕ)) (marks : List Bool) (found : List ℕ) → IsFollowed rows marks found 0
followed_none rows marks found = record {
  below = omega arith;
  closed = λ place from to none stands edge. absurd (omega arith);
}

front_same : (f g : List ℕ) (place node : ℕ) → ((place node : ℕ) → slice_get f place ≡ Some node → slice_get g place ≡ Some node)
    → place < length f → slice_get g place ≡ Some node → slice_get f place ≡ Some node
front_same f g place node front within stands =
    let was = slice_get-get_or f place node within in
    let is = front place (get_or f place node) was in
    cc

closed_more : (rows : List (List ℕ)) (m n : List Bool) (f g : List ℕ) (done node : ℕ) → IsFollowed rows m f done
    → FindsAll (targets_of rows node) m n f g → slice_get f done ≡ Some node
    → (place from to : ℕ) → (place < done) ⊎ (place ≡ done) → slice_get g place ≡ Some from → Edge rows from to → Marked n to
closed_more rows m n f g done node followed finds at place from to (inl earlier) stands edge =
    let within : place < length f = omega (arith, followed.below) in
    finds.kept to (followed.closed place from to earlier (front_same f g place from finds.front within stands) edge)
closed_more rows m n f g done node followed finds at place from to (inr now) stands edge =
    let here = rw now at stands in
    let there = finds.front done node at in
    let same : from ≡ node = cc in
    let edge' = rw same at edge in
    finds.marked to (contains_get (targets_of rows node) edge'.number to edge'.leads)

pub followed_more : (rows : List (List ℕ)) (m n : List Bool) (f g : List ℕ) (done node : ℕ) → IsFollowed rows m f done
    → FindsAll (targets_of rows node) m n f g → slice_get f done ≡ Some node → IsFollowed rows n g (done + 1)
followed_more rows m n f g done node followed finds at = record {
  below = let within = slice_get_within g done node (finds.front done node at) in omega arith;
  closed = λ place from to below stands edge.
      closed_more rows m n f g done node followed finds at place from to (cases_below place done below) stands edge;
}

complete : (rows : List (List ℕ)) (starts : List ℕ) (marks : List Bool) (found : List ℕ) (done : ℕ) → IsSearch rows starts marks found
    → IsFollowed rows marks found done → length found ≤ done → (node : ℕ) → ReachedFrom rows starts node → Marked marks node
complete rows starts marks found done is followed all node (at_start _ there) = is.starts_marked node there
complete rows starts marks found done is followed all node (along from _ before edge) =
    let at = get_contained found from (is.are.listed from (complete rows starts marks found done is followed all from before)) in
    let within = slice_get_within found at.0 from at.1 in
    followed.closed at.0 from node (omega arith) at.1 edge

pub lists_reached : (rows : List (List ℕ)) (starts : List ℕ) (marks : List Bool) (found : List ℕ) (done : ℕ) → IsSearch rows starts marks found
    → IsFollowed rows marks found done → length found ≤ done → ListsReached rows starts found
lists_reached rows starts marks found done is followed all = record {
  marks = marks;
  reached = record {
    whole = is.whole;
    sound = is.reached;
    complete = λ node reached. complete rows starts marks found done is followed all node reached;
  };
  marked = λ node there. (let at = get_contained found node there in is.are.marked at.0 node at.1);
  listed = is.are.listed;
  once = is.are.once;
}

-- ---- the marks are taken back

pub found_inside : (marks : List Bool) (found : List ℕ) → AreListed marks found → All (λ node. node < length marks) found
found_inside marks found are =
    all_contained (λ (node : ℕ). node < length marks) found
    (λ node there. (let at = get_contained found node there in slice_get_within marks node true (are.marked at.0 node at.1)))

pub unmarked_all : (marks : List Bool) → ((node : ℕ) → ¬ Marked marks node) → marks ≡ replicate (length marks) false
unmarked_all [] none = refl
unmarked_all (true ∷ marks) none = absurd (none 0 refl)
unmarked_all (false ∷ marks) none = ap (λ (xs : List Bool). false ∷ xs) (unmarked_all marks (λ node. none (suc node)))

-- a mark that is left stands on a later node
pub left_more : (nodes : List ℕ) (marks : List Bool) (place node : ℕ) → slice_get nodes place ≡ Some node
    → ((one : ℕ) → Marked marks one → Contains (drop place nodes) one) → (one : ℕ) → Marked (set marks node false) one → Contains (drop (place + 1) nodes) one
left_more nodes marks place node at left one marked = elim (get_set marks node one false true marked) [
  | inr new ↦ absurd (false≢true (sym new.1))
  | inl old ↦ elim (contains_cons node one (drop (place + 1) nodes) (rw (drop_at nodes place node at) at (left one old.1))) [
    | inl e ↦ absurd (old.0 (sym e))
    | inr later ↦ later
  ]
]

pub none_left : (nodes : List ℕ) (marks : List Bool) (place : ℕ) → length nodes ≤ place
    → ((one : ℕ) → Marked marks one → Contains (drop place nodes) one) → marks ≡ replicate (length marks) false
none_left nodes marks place past left = unmarked_all marks (λ one marked. contains_none one (rw (drop_all place nodes past) at (left one marked)))
