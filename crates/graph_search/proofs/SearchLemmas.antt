-- The search, a node at a time.
use Rattle.std.proofs.Common.{◌≡◌, ◌∙◌, ℕ, ◌<◌, ◌≤◌, ◌+◌, ◌⊎◌, inl, inr, Bool, true, false, List, [], ◌∷◌, ◌++◌, length, get_or, set, replicate, ap, sym, arith, Some, slice_get, length-append}
use Rattle.std.specs.List.{All, Contains}
use Rattle.std.proofs.lemmas.Bool.{false≢true}
use Rattle.std.proofs.lemmas.List.{length-set, length-replicate}
use Rattle.std.proofs.lemmas.List.Elements.{Contains-push, Contains-push_cases, Contains-append_left}
use Rattle.std.proofs.lemmas.Option.{slice_get_within, slice_get-get_or}
use Rattle.list_laws.proofs.Places.{cases_below, get_front, get_pushed, get_written, get_kept, get_set, get_filled}
use Rattle.list_laws.proofs.Contents.{all_contained, contains_get, get_contained}
use Rattle.graph_search.specs.declared.search.Search.{Search}
use Rattle.graph_search.specs.Edges.{targets_of, Edge, AreInside}
use Rattle.graph_search.specs.Paths.{ReachedFrom, at_start, along, Marked, MarksReached}
use Rattle.graph_search.specs.Searches.{Finds, had_mark, had_none, FindsAll, IsSearch}
use Rattle.list_laws.proofs.Tests.{count_marked}

-- ---- one mark more

pub old-mark : (xs : List Bool) (j k : ℕ) → Marked (set xs j true) k → Marked xs k ⊎ (k ≡ j)
old-mark xs j k is = elim (get_set xs j k true true is) [ inl old ↦ inl old.1 | inr new ↦ inr new.0 ]

pub no-mark : (count node : ℕ) → ¬ Marked (replicate count false) node
no-mark count node is = false≢true (sym (get_filled count false node true is))

-- ---- finding some nodes

pub finds-more : (nodes : List ℕ) (node : ℕ) (old between new : Search) → FindsAll nodes old between → Finds node between new
    → FindsAll (nodes ++ node ∷ []) old new
finds-more nodes node old between new finds (had_mark is same) = rw same (record {
  whole = finds.whole;
  kept = finds.kept;
  marked = λ one there. elim (Contains-push_cases nodes node one there) [
    | inl earlier ↦ finds.marked one earlier
    | inr e ↦ rw (← e) is
  ];
  source = λ one m. elim (finds.source one m) [
    | inl was ↦ inl was
    | inr there ↦ inr (Contains-append_left nodes (node ∷ []) one there)
  ];
  front = finds.front;
  back = finds.back;
  listed = finds.listed;
  balance = finds.balance;
})
finds-more nodes node old between new finds (had_none is written pushed) = record {
  whole = rw written (length-set between.marks.items node true ∙ finds.whole);
  kept = λ one m. rw written (get_kept between.marks.items node one true (finds.kept one m));
  marked = λ one there. elim (Contains-push_cases nodes node one there) [
    | inl earlier ↦ rw written (get_kept between.marks.items node one true (finds.marked one earlier))
    | inr e ↦ rw (written, ← e) (get_written between.marks.items node false true is)
  ];
  source = λ one m. elim (old-mark between.marks.items node one (let s = rw written at m in s)) [
    | inl earlier ↦ elim (finds.source one earlier) [
      | inl was ↦ inl was
      | inr there ↦ inr (Contains-append_left nodes (node ∷ []) one there)
    ]
    | inr e ↦ inr (rw e (Contains-push nodes node))
  ];
  front = λ place one stands. rw pushed (get_front between.found.items (node ∷ []) place one (finds.front place one stands));
  back = λ place one stands. elim (get_pushed between.found.items node place one (let s = rw pushed at stands in s)) [
    | inl earlier ↦ elim (finds.back place one earlier) [
      | inl was ↦ inl was
      | inr m ↦ inr (rw written (get_kept between.marks.items node one true m))
    ]
    | inr e ↦ inr (rw (written, e) (get_written between.marks.items node false true is))
  ];
  listed = λ one m. elim (old-mark between.marks.items node one (let s = rw written at m in s)) [
    | inl earlier ↦ elim (finds.listed one earlier) [
      | inl was ↦ inl was
      | inr there ↦ inr (rw pushed (Contains-append_left between.found.items (node ∷ []) one there))
    ]
    | inr e ↦ inr (rw (pushed, e) (Contains-push between.found.items node))
  ];
  balance =
      let count = count_marked between.marks.items node is in
      let longer = length-append between.found.items (node ∷ []) in
      rw (written, pushed) (omega (arith, count, longer, finds.balance));
}

-- ---- inside

pub starts-inside : (rows : List (List ℕ)) (starts : List ℕ) (marks : List Bool) → AreInside rows starts → length marks ≡ length rows
    → All (λ node. node < length marks) starts
starts-inside rows starts marks inside whole =
    all_contained (λ (node : ℕ). node < length marks) starts (λ node there. rw whole (inside.starts_inside node there))

pub edge-to : (rows : List (List ℕ)) (from to : ℕ) → Contains (targets_of rows from) to → Edge rows from to
edge-to rows from to there = let at = get_contained (targets_of rows from) to there in record { number = at.0; leads = at.1 }

pub targets-inside : (rows : List (List ℕ)) (starts : List ℕ) (from : ℕ) (marks : List Bool) → AreInside rows starts → length marks ≡ length rows
    → All (λ node. node < length marks) (targets_of rows from)
targets-inside rows starts from marks inside whole =
    all_contained (λ (node : ℕ). node < length marks) (targets_of rows from)
    (λ node there. rw whole (inside.edges_inside from node (edge-to rows from node there)))

-- ---- the search

pub search-start : (rows : List (List ℕ)) (starts : List ℕ) (none search : Search) (count : ℕ) → count ≡ length rows
    → none.marks.items ≡ replicate count false → none.found.items ≡ [] → FindsAll starts none search → IsSearch rows starts search
search-start rows starts none search count whole unmarked empty finds =
    let never : (node : ℕ) → ¬ Marked none.marks.items node = λ node is. no-mark count node (rw unmarked at is) in
    record {
      whole = finds.whole ∙ ap length unmarked ∙ length-replicate count false ∙ whole;
      starts_marked = finds.marked;
      marked = λ place node stands. elim (finds.back place node stands) [
        | inl was ↦ absurd (let none = slice_get_within none.found.items place node was in omega (arith, none, ap length empty))
        | inr m ↦ m
      ];
      listed = λ node m. elim (finds.listed node m) [ inl was ↦ absurd (never node was) | inr there ↦ there ];
      reached = λ node m. elim (finds.source node m) [ inl was ↦ absurd (never node was) | inr there ↦ at_start node there ];
    }

pub search-more : (rows : List (List ℕ)) (starts : List ℕ) (old new : Search) (from : ℕ) → IsSearch rows starts old
    → Marked old.marks.items from → FindsAll (targets_of rows from) old new → IsSearch rows starts new
search-more rows starts old new from search is finds = record {
  whole = finds.whole ∙ search.whole;
  starts_marked = λ node there. finds.kept node (search.starts_marked node there);
  marked = λ place node stands. elim (finds.back place node stands) [
    | inl was ↦ finds.kept node (search.marked place node was)
    | inr m ↦ m
  ];
  listed = λ node m. elim (finds.listed node m) [
    | inl was ↦ (let at = get_contained old.found.items node (search.listed node was) in
        contains_get new.found.items at.0 node (finds.front at.0 node at.1))
    | inr there ↦ there
  ];
  reached = λ node m. elim (finds.source node m) [
    | inl was ↦ search.reached node was
    | inr there ↦ along from node (search.reached from is) (edge-to rows from node there)
  ];
}

-- the edges of the first nodes that are listed have been followed
pub record IsFollowed (rows : List (List ℕ)) (search : Search) (done : ℕ) : Type 0 where
  pub below : done ≤ length search.found.items
  pub closed : (place from to : ℕ) → place < done → slice_get search.found.items place ≡ Some from → Edge rows from to
      → Marked search.marks.items to

pub followed-none : (rows : List (List ℕ)) (search : Search) → IsFollowed rows search 0
followed-none rows search = record {
  below = omega arith;
  closed = λ place from to none stands edge. absurd (omega arith);
}

front-same : (old new : Search) (place node : ℕ)
    → ((place node : ℕ) → slice_get old.found.items place ≡ Some node → slice_get new.found.items place ≡ Some node)
    → place < length old.found.items → slice_get new.found.items place ≡ Some node → slice_get old.found.items place ≡ Some node
front-same old new place node front within stands =
    let was = slice_get-get_or old.found.items place node within in
    let is = front place (get_or old.found.items place node) was in
    cc

closed-more : (rows : List (List ℕ)) (old new : Search) (done node : ℕ) → IsFollowed rows old done
    → FindsAll (targets_of rows node) old new → slice_get old.found.items done ≡ Some node
    → (place from to : ℕ) → (place < done) ⊎ (place ≡ done) → slice_get new.found.items place ≡ Some from → Edge rows from to
    → Marked new.marks.items to
closed-more rows old new done node followed finds at place from to (inl earlier) stands edge =
    let within : place < length old.found.items = omega (arith, followed.below) in
    finds.kept to (followed.closed place from to earlier (front-same old new place from finds.front within stands) edge)
closed-more rows old new done node followed finds at place from to (inr now) stands edge =
    let here = rw now at stands in
    let there = finds.front done node at in
    let same : from ≡ node = cc in
    let edge' = rw same at edge in
    finds.marked to (contains_get (targets_of rows node) edge'.number to edge'.leads)

pub followed-more : (rows : List (List ℕ)) (old new : Search) (done node : ℕ) → IsFollowed rows old done
    → FindsAll (targets_of rows node) old new → slice_get old.found.items done ≡ Some node → IsFollowed rows new (done + 1)
followed-more rows old new done node followed finds at = record {
  below = let within = slice_get_within new.found.items done node (finds.front done node at) in omega arith;
  closed = λ place from to below stands edge.
      closed-more rows old new done node followed finds at place from to (cases_below place done below) stands edge;
}

complete : (rows : List (List ℕ)) (starts : List ℕ) (search : Search) (done : ℕ) → IsSearch rows starts search
    → IsFollowed rows search done → length search.found.items ≤ done → (node : ℕ) → ReachedFrom rows starts node → Marked search.marks.items node
complete rows starts search done is followed all node (at_start _ there) = is.starts_marked node there
complete rows starts search done is followed all node (along from _ before edge) =
    let at = get_contained search.found.items from (is.listed from (complete rows starts search done is followed all from before)) in
    let within = slice_get_within search.found.items at.0 from at.1 in
    followed.closed at.0 from node (omega arith) at.1 edge

pub marks-reached : (rows : List (List ℕ)) (starts : List ℕ) (search : Search) (done : ℕ) → IsSearch rows starts search
    → IsFollowed rows search done → length search.found.items ≤ done → MarksReached rows starts search.marks.items
marks-reached rows starts search done is followed all = record {
  whole = is.whole;
  sound = is.reached;
  complete = λ node reached. complete rows starts search done is followed all node reached;
}
