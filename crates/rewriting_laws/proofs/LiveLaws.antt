-- The table of live values has what the laws ask of one.
use Rattle.std.proofs.Common.{◌≡◌, ℕ, zero, suc, ◌<◌, ◌≤◌, ◌+◌, ◌-◌, Bool, true, false, not, eqb, leb, if◌then◌else◌, List, [], ◌∷◌, ◌++◌, length, map, drop, replicate, refl, ap, sym, arith, Some, Option, slice_get, inl, inr, ◌⊎◌, ◌∙◌, ◌||◌, ◌&&◌}
use Rattle.std.specs.List.{IsDistinct, AllByRecursion, list_any, flat_map, range_with_len}
use Rattle.std.specs.Option.{option_map_or}
use Rattle.std.proofs.lemmas.Bool.{cases_Bool, cases_eq, cases_lt, eqb-true, eq-eqb, ne_eqb, true≢false, false≢true, or_left, or_right, or_cases, or_parts, and_from, and_parts, le-leb, not_from_false}
use Rattle.std.proofs.lemmas.Option.{slice_get_within}
use Rattle.std.proofs.lemmas.List.{get_or_past, length-map}
use Rattle.std.proofs.lemmas.List.Sums.{sum_by-cons}
use Rattle.std.proofs.lemmas.Map.Keys.{IsDistinct-cons, any_passes_from_place}
use Rattle.std.proofs.lemmas.Map.Steps.{length-le_from_distinct_below}
use Rattle.sp_ids.specs.declared.ids.BlockId.{BlockId}
use Rattle.ir_ast.specs.declared.types.Ty.{Ty}
use Rattle.ir_ast.specs.declared.ops.Operand.{Operand}
use Rattle.ir_ast.specs.Funcs.{Function}
use Rattle.ir_ast.specs.Edges.{count_of}
use Rattle.ir_ast.specs.Faults.PhiEdges.{is_phi}
use Rattle.ir_cfg.specs.Graphs.{graph_of, succs_of, block_at}
use Rattle.object_meaning.specs.Lines.{Line}
use Rattle.rewriting_forms.specs.Numbered.{named, among, lines_at, line_at, gives, pointers, succs}
use Rattle.rewriting_forms.specs.Liveness.{is_use, any_use, any_held, incoming, uses_entry, live_over, uses_here, live_lines, live_front, is_live, is_live_after, live_table}
use Rattle.rewriting_laws.specs.Laws.{Edge, IsClosed}
use Rattle.rewriting_laws.proofs.NameLemmas.{line_is}
use Rattle.rewriting_laws.proofs.VersionLaws.{no_lines}
use Rattle.list_laws.proofs.Places.{drop_whole}
use Rattle.list_laws.proofs.Tests.{any_weaker}

any_differs : {A : Type 0} (f g : A → Bool) (xs : List A) → list_any f xs ≡ true → list_any g xs ≡ false → (x : A) × (f x ≡ true) × (g x ≡ false)
any_differs f g [] one two = absurd (false≢true one)
any_differs f g (x ∷ xs) one two =
    let none = or_parts (g x) (list_any g xs) two in
    elim (or_cases (f x) (list_any f xs) one) [ inl here ↦ (x, here, none.0) | inr there ↦ any_differs f g xs there none.1 ]

any_among : (f : ℕ → Bool) (xs : List ℕ) (v : ℕ) → among v xs ≡ true → f v ≡ true → list_any f xs ≡ true
any_among f [] v is passes = absurd (false≢true is)
any_among f (x ∷ xs) v is passes = elim (or_cases (eqb x v) (among v xs) is) [
  | inl here ↦ or_left (f x) (list_any f xs) (ap f (eqb-true x v here) ∙ passes)
  | inr there ↦ or_right (f x) (list_any f xs) (any_among f xs v there passes)
]

module _ (func : Function) (table : List Operand) (v : ℕ) where
  abbrev over : (ℕ → Bool) → ℕ → Bool
  over at_front b = list_any (live_over func table v at_front b) (succs func b)

  lines_more : (beyond other : Bool) → (beyond ≡ true → other ≡ true) → (lines : List Line) → live_lines func table v beyond lines ≡ true
      → live_lines func table v other lines ≡ true
  lines_more beyond other more [] is = more is
  lines_more beyond other more (line ∷ lines) is = elim (or_cases (uses_here func table v line) (not (gives line v) && live_lines func table v beyond lines) is) [
    | inl uses ↦ or_left (uses_here func table v line) (not (gives line v) && live_lines func table v other lines) uses
    | inr on ↦
        let parts = and_parts (not (gives line v)) (live_lines func table v beyond lines) on in
        or_right (uses_here func table v line) (not (gives line v) && live_lines func table v other lines)
        (and_from (not (gives line v)) (live_lines func table v other lines) parts.0 (lines_more beyond other more lines parts.1))
  ]

  over_more : (one other : ℕ → Bool) → ((to : ℕ) → one to ≡ true → other to ≡ true) → (b : ℕ) → over one b ≡ true → over other b ≡ true
  over_more one other more b is =
      any_weaker (live_over func table v one b) (live_over func table v other b) (succs func b) (λ to here.
      elim (or_cases (list_any (uses_entry func table v b) (lines_at func to)) (one to) here) [
        | inl uses ↦ or_left (list_any (uses_entry func table v b) (lines_at func to)) (other to) uses
        | inr on ↦ or_right (list_any (uses_entry func table v b) (lines_at func to)) (other to) (more to on)
      ]) is

  abbrev front : ℕ → ℕ → Bool
  front bound b = live_front func table v bound b

  front_more : (bound b : ℕ) → front bound b ≡ true → front (suc bound) b ≡ true
  front_more zero b is = absurd (false≢true is)
  front_more (suc bound) b is =
      lines_more (over (live_front func table v bound) b) (over (live_front func table v (suc bound)) b)
      (over_more (live_front func table v bound) (live_front func table v (suc bound)) (front_more bound) b) (lines_at func b) is

  front_after : (more bound b : ℕ) → front bound b ≡ true → front (more + bound) b ≡ true
  front_after zero bound b is = let e : 0 + bound ≡ bound = omega arith in rw e is
  front_after (suc more) bound b is =
      let e : suc more + bound ≡ suc (more + bound) = omega arith in
      rw e (front_more (more + bound) b (front_after more bound b is))

  front_le : (bound other b : ℕ) → bound ≤ other → front bound b ≡ true → front other b ≡ true
  front_le bound other b le is =
      let e : (other - bound) + bound ≡ other = omega arith in
      let h = front_after (other - bound) bound b is in
      rw e at h

  record Fresh (n b : ℕ) : Type 0 where
    now : front (suc n) b ≡ true
    before : front n b ≡ false

  fresh_once : (n m b : ℕ) → Fresh n b → Fresh m b → n ≡ m
  fresh_once n m b one two = elim (cases_lt n m) [
    | inl lt ↦ absurd (false≢true (sym two.before ∙ front_le (suc n) m b (omega arith) one.now))
    | inr ge ↦ elim (cases_lt m n) [
      | inl lt ↦ absurd (false≢true (sym one.before ∙ front_le (suc m) n b (omega arith) two.now))
      | inr le ↦ omega arith
    ]
  ]

  lines_differ : (beyond other : Bool) (lines : List Line) → live_lines func table v beyond lines ≡ true → live_lines func table v other lines ≡ false
      → (beyond ≡ true) × (other ≡ false)
  lines_differ beyond other [] one two = (one, two)
  lines_differ beyond other (line ∷ lines) one two =
      let none = or_parts (uses_here func table v line) (not (gives line v) && live_lines func table v other lines) two in
      elim (or_cases (uses_here func table v line) (not (gives line v) && live_lines func table v beyond lines) one) [
        | inl uses ↦ absurd (true≢false (sym uses ∙ none.0))
        | inr on ↦
            let parts = and_parts (not (gives line v)) (live_lines func table v beyond lines) on in
            let fails : live_lines func table v other lines ≡ false = sym (ap (λ (t : Bool). t && live_lines func table v other lines) parts.0) ∙ none.1 in
            lines_differ beyond other lines parts.1 fails
      ]

  fresh_next : (n b : ℕ) → Fresh (suc n) b → (to : ℕ) × Fresh n to
  fresh_next n b fresh =
      let differ = lines_differ (over (live_front func table v (suc n)) b) (over (live_front func table v n) b) (lines_at func b) fresh.now fresh.before in
      let edge = any_differs (live_over func table v (live_front func table v (suc n)) b) (live_over func table v (live_front func table v n) b) (succs func b) differ.0 differ.1 in
      let none = or_parts (list_any (uses_entry func table v b) (lines_at func edge.0)) (front n edge.0) edge.2 in
      let one : front (suc n) edge.0 ≡ true = elim (or_cases (list_any (uses_entry func table v b) (lines_at func edge.0)) (front (suc n) edge.0) edge.1) [
        | inl uses ↦ absurd (true≢false (sym uses ∙ none.0))
        | inr on ↦ on
      ] in
      (edge.0, record { now = one; before = none.1 })

  fresh_blocks : (n b : ℕ) → Fresh n b → List ℕ
  fresh_blocks zero b fresh = b ∷ []
  fresh_blocks (suc n) b fresh = let next = fresh_next n b fresh in b ∷ fresh_blocks n next.0 next.1

  fresh_length : (n b : ℕ) (fresh : Fresh n b) → length (fresh_blocks n b fresh) ≡ suc n
  unfolding fresh_blocks
  fresh_length zero b fresh = refl
  fresh_length (suc n) b fresh = ap suc (fresh_length n (fresh_next n b fresh).0 (fresh_next n b fresh).1)

  fresh_member : (n b : ℕ) (fresh : Fresh n b) (x : ℕ) → list_any (eqb x) (fresh_blocks n b fresh) ≡ true → (m : ℕ) × (m ≤ n) × Fresh m x
  unfolding fresh_blocks
  fresh_member zero b fresh x is = elim (cases_eq x b) [
    | inl e ↦ (0, omega arith, rw e fresh)
    | inr ne ↦ absurd (false≢true (let h = rw (ne_eqb x b ne) at is in h))
  ]
  fresh_member (suc n) b fresh x is = elim (cases_eq x b) [
    | inl e ↦ (suc n, omega arith, rw e fresh)
    | inr ne ↦
        let rest = fresh_member n (fresh_next n b fresh).0 (fresh_next n b fresh).1 x (let h = rw (ne_eqb x b ne) at is in h) in
        (rest.0, omega (arith, rest.1), rest.2)
  ]

  any_apart : (x : ℕ) (xs : List ℕ) → (list_any (eqb x) xs ≡ true → ⊥) → AllByRecursion (λ (y : ℕ). eqb x y ≡ false) xs
  any_apart x [] not_in = tt
  any_apart x (y ∷ xs) not_in = elim (cases_eq x y) [
    | inl e ↦ absurd (not_in (rw (eq-eqb x y e) refl))
    | inr ne ↦ (ne_eqb x y ne, any_apart x xs (λ is. not_in (rw (ne_eqb x y ne) is)))
  ]

  fresh_distinct : (n b : ℕ) (fresh : Fresh n b) → IsDistinct eqb (fresh_blocks n b fresh)
  unfolding fresh_blocks IsDistinct
  fresh_distinct zero b fresh = (tt, tt)
  fresh_distinct (suc n) b fresh =
      IsDistinct-cons eqb b (fresh_blocks n (fresh_next n b fresh).0 (fresh_next n b fresh).1)
      (any_apart b (fresh_blocks n (fresh_next n b fresh).0 (fresh_next n b fresh).1) (λ again.
      let member = fresh_member n (fresh_next n b fresh).0 (fresh_next n b fresh).1 b again in
      let same = fresh_once member.0 (suc n) b member.2 fresh in
      omega (arith, member.1, same)))
      (fresh_distinct n (fresh_next n b fresh).0 (fresh_next n b fresh).1)

  pub front_within : (bound b : ℕ) → front bound b ≡ true → b < length func.blocks
  front_within zero b is = absurd (false≢true is)
  front_within (suc bound) b is = elim (cases_lt b (length func.blocks)) [
    | inl below ↦ below
    | inr past ↦
        let lines : live_lines func table v (over (live_front func table v bound) b) (lines_at func b) ≡ live_lines func table v (over (live_front func table v bound) b) [] =
        ap (live_lines func table v (over (live_front func table v bound) b)) (no_lines func table b past) in
        let next : succs func b ≡ [] = ap (map (λ (l : BlockId). l.0)) (get_or_past (graph_of func) b [] (rw (length-map func.blocks _) past)) in
        absurd (false≢true (sym (ap (list_any (live_over func table v (live_front func table v bound) b)) next) ∙ sym lines ∙ is))
  ]

  fresh_short : (n b : ℕ) → Fresh n b → suc n ≤ length func.blocks
  fresh_short n b fresh =
      let le = length-le_from_distinct_below (fresh_blocks n b fresh) (length func.blocks) (fresh_distinct n b fresh)
      (λ x is. let member = fresh_member n b fresh x is in front_within (suc member.0) x member.2.now) in
      omega (arith, le, fresh_length n b fresh)

  pub front_enough : (bound b : ℕ) → front bound b ≡ true → front (length func.blocks) b ≡ true
  front_enough zero b is = absurd (false≢true is)
  front_enough (suc bound) b is = elim (cases_Bool (front bound b)) [
    | inl earlier ↦ front_enough bound b earlier
    | inr none ↦ front_le (suc bound) (length func.blocks) b (fresh_short bound b (record { now = is; before = none })) is
  ]

pub drop_from : {A : Type 0} (xs : List A) (k : ℕ) (x : A) → slice_get xs k ≡ Some x → drop k xs ≡ x ∷ drop (suc k) xs
drop_from [] k x is = absurd (cc)
drop_from (y ∷ xs) zero x is = ap (λ (z : _). z ∷ xs) (cc)
drop_from (y ∷ xs) (suc k) x is = drop_from xs k x is

-- an edge by its block's labels
among_append : (x : ℕ) (xs ys : List ℕ) → among x (xs ++ ys) ≡ true → (among x xs ≡ true) ⊎ (among x ys ≡ true)
among_append x [] ys is = inr is
among_append x (y ∷ xs) ys is = elim (or_cases (eqb y x) (among x (xs ++ ys)) is) [
  | inl here ↦ inl (or_left (eqb y x) (among x xs) here)
  | inr there ↦ elim (among_append x xs ys there) [ inl front ↦ inl (or_right (eqb y x) (among x xs) front) | inr back ↦ inr back ]
]

among_repeat : (x n v : ℕ) → among x (map (λ (l : BlockId). l.0) (replicate n (block_at v))) ≡ true → (x ≡ v) × (0 < n)
among_repeat x zero v is = absurd (false≢true is)
among_repeat x (suc n) v is = elim (or_cases (eqb v x) (among x (map (λ (l : BlockId). l.0) (replicate n (block_at v)))) is) [
  | inl here ↦ (sym (eqb-true v x here), omega arith)
  | inr rest ↦ ((among_repeat x n v rest).0, omega arith)
]

map_split : (f : BlockId → ℕ) (xs ys : List BlockId) → map f (xs ++ ys) ≡ map f xs ++ map f ys
map_split f [] ys = refl
map_split f (x ∷ xs) ys = ap (λ (zs : List ℕ). f x ∷ zs) (map_split f xs ys)

counts_from : (g : ℕ → ℕ) (from count x : ℕ)
    → among x (map (λ (l : BlockId). l.0) (flat_map (λ (p : ℕ). replicate (g p) (block_at p)) (range_with_len from count))) ≡ true → 0 < g x
counts_from g from zero x is = absurd (false≢true is)
counts_from g from (suc count) x is =
    let rest = flat_map (λ (p : ℕ). replicate (g p) (block_at p)) (range_with_len (from + 1) count) in
    let split = map_split (λ (l : BlockId). l.0) (replicate (g from) (block_at from)) rest in
    elim (among_append x (map (λ (l : BlockId). l.0) (replicate (g from) (block_at from))) (map (λ (l : BlockId). l.0) rest) (ap (among x) (sym split) ∙ is)) [
      | inl here ↦ let one = among_repeat x (g from) from here in rw one.0 one.1
      | inr there ↦ counts_from g (from + 1) count x there
    ]

one_or_none : Bool → ℕ
one_or_none t = if t then 1 else 0

counted_among : (to : ℕ) (labels : List BlockId) → 0 < count_of to labels → among to (map (λ (l : BlockId). l.0) labels) ≡ true
unfolding one_or_none
counted_among to [] some = absurd (omega arith)
counted_among to (l ∷ labels) some = elim (cases_Bool (eqb l.0 to)) [
  | inl here ↦ or_left (eqb l.0 to) (among to (map (λ (x : BlockId). x.0) labels)) here
  | inr other ↦
      let split = sum_by-cons (λ (x : BlockId). if eqb x.0 to then 1 else 0) l labels in
      let none = ap (one_or_none) other in
      or_right (eqb l.0 to) (among to (map (λ (x : BlockId). x.0) labels)) (counted_among to labels (omega (arith, split, none, some)))
]

pub edge_succs : (func : Function) (from to : ℕ) → Edge func from to → among to (succs func from) ≡ true
edge_succs func from to edge =
    counted_among to (succs_of (graph_of func) from) (counts_from (λ p. count_of to (succs_of (graph_of func) p)) 0 (length (graph_of func)) from edge)

module _ (func : Function) (table : List Operand) where
  abbrev beyond : ℕ → ℕ → Bool
  beyond v b = list_any (live_over func table v (live_front func table v (length func.blocks)) b) (succs func b)

  live_at_line : (b k v : ℕ) (line : Line) → slice_get (lines_at func b) k ≡ Some line
      → (uses_here func table v line || (not (gives line v) && live_lines func table v (beyond v b) (drop (suc k) (lines_at func b)))) ≡ true → is_live func table b k v ≡ true
  live_at_line b k v line stands is =
      let below = slice_get_within (lines_at func b) k line stands in
      and_from (leb k (length (lines_at func b))) (live_lines func table v (beyond v b) (drop k (lines_at func b))) (le-leb k (length (lines_at func b)) (omega arith))
      (ap (live_lines func table v (beyond v b)) (drop_from (lines_at func b) k line stands) ∙ is)

  use_self : (v : ℕ) → is_use func table v (named v) ≡ true
  use_self v = or_left (eqb v v) _ (eq-eqb v v refl)

  -- what is live before an instruction is in the table there
  in_table : (b k v : ℕ) → is_live func table b k v ≡ true → live_table func table b k v ≡ true
  in_table b zero v is = or_right (not (among v (pointers func))) (is_live func table b 0 v) is
  in_table b (suc k) v is = or_right (not (among v (pointers func))) (is_live_after func table b k v) (or_right (any_held func table v (line_at func b k).inst) (is_live func table b (suc k) v) is)

  end_live : (b v : ℕ) → beyond v b ≡ true → live_table func table b (length (lines_at func b)) v ≡ true
  end_live b v is =
      in_table b (length (lines_at func b)) v
      (and_from (leb (length (lines_at func b)) (length (lines_at func b))) (live_lines func table v (beyond v b) (drop (length (lines_at func b)) (lines_at func b)))
      (le-leb (length (lines_at func b)) (length (lines_at func b)) (omega arith))
      (ap (live_lines func table v (beyond v b)) (drop_whole (lines_at func b)) ∙ is))

  other_kept : (b k v : ℕ) → not (among v (pointers func)) ≡ true → live_table func table b k v ≡ true
  other_kept b zero v is = or_left (not (among v (pointers func))) (is_live func table b 0 v) is
  other_kept b (suc k) v is = or_left (not (among v (pointers func))) (is_live_after func table b k v) is

  held_any : (line : Line) (v : ℕ) (entries : List (Ty × Operand)) (place : ℕ) → slice_get (map (λ (entry : Ty × Operand). entry.1) entries) place ≡ Some (named v)
      → list_any (λ (entry : Ty × Operand). is_use func table v entry.1) entries ≡ true
  held_any line v [] place is = absurd (cc)
  held_any line v (entry ∷ entries) zero is =
      let e : entry.1 ≡ named v = cc in
      or_left (is_use func table v entry.1) (list_any (λ (entry : Ty × Operand). is_use func table v entry.1) entries) (ap (is_use func table v) e ∙ use_self v)
  held_any line v (entry ∷ entries) (suc place) is =
      or_right (is_use func table v entry.1) (list_any (λ (entry : Ty × Operand). is_use func table v entry.1) entries) (held_any line v entries place is)

  pub table_closed : IsClosed func (live_table func table)
  table_closed = record {
    uses = λ b k place v line stands phi is.
        in_table b k v (live_at_line b k v line stands
        (or_left (uses_here func table v line) (not (gives line v) && live_lines func table v (beyond v b) (drop (suc k) (lines_at func b)))
        (or_left (not (is_phi line.inst.op) && any_use func table v line.inst.operands) (any_held func table v line.inst)
        (and_from (not (is_phi line.inst.op)) (any_use func table v line.inst.operands) (not_from_false (is_phi line.inst.op) phi)
        (any_passes_from_place (is_use func table v) line.inst.operands place (named v) is (use_self v))))));
    held = λ b k place v line stands is.
        in_table b k v (live_at_line b k v line stands
        (or_left (uses_here func table v line) (not (gives line v) && live_lines func table v (beyond v b) (drop (suc k) (lines_at func b)))
        (or_right (not (is_phi line.inst.op) && any_use func table v line.inst.operands) (any_held func table v line.inst) (held_any line v line.inst.bundle place is))));
    later = λ b k v line stands none alive. elim (or_cases (not (among v (pointers func))) (is_live_after func table b k v) alive) [
      | inl other ↦ other_kept b k v other
      | inr after ↦ elim (or_cases (any_held func table v (line_at func b k).inst) (is_live func table b (suc k) v) after) [
        | inl holds ↦
            let here : any_held func table v line.inst ≡ true = ap (λ (l : Line). any_held func table v l.inst) (sym (line_is func b k line stands)) ∙ holds in
            in_table b k v (live_at_line b k v line stands
            (or_left (uses_here func table v line) (not (gives line v) && live_lines func table v (beyond v b) (drop (suc k) (lines_at func b)))
            (or_right (not (is_phi line.inst.op) && any_use func table v line.inst.operands) (any_held func table v line.inst) here)))
        | inr next ↦
            let parts = and_parts (leb (suc k) (length (lines_at func b))) (live_lines func table v (beyond v b) (drop (suc k) (lines_at func b))) next in
            in_table b k v (live_at_line b k v line stands
            (or_right (uses_here func table v line) (not (gives line v) && live_lines func table v (beyond v b) (drop (suc k) (lines_at func b)))
            (and_from (not (gives line v)) (live_lines func table v (beyond v b) (drop (suc k) (lines_at func b))) (not_from_false (gives line v) none) parts.1)))
      ]
    ];
    crosses = λ from to v edge alive. elim (or_cases (not (among v (pointers func))) (is_live func table to 0 v) alive) [
      | inl other ↦ other_kept from (length (lines_at func from)) v other
      | inr here ↦
          let parts = and_parts (leb 0 (length (lines_at func to))) (live_lines func table v (beyond v to) (drop 0 (lines_at func to))) here in
          let enough = front_enough func table v (suc (length func.blocks)) to parts.1 in
          end_live from v (any_among (live_over func table v (live_front func table v (length func.blocks)) from) (succs func from) to (edge_succs func from to edge)
          (or_right (list_any (uses_entry func table v from) (lines_at func to)) (live_front func table v (length func.blocks) to) enough))
    ];
    entries = λ from to k v phi edge stands is entry.
        let used : uses_entry func table v from phi ≡ true =
        and_from (is_phi phi.inst.op) (option_map_or (is_use func table v) (incoming from phi.inst) false) is
        (ap (λ (o : Option Operand). option_map_or (is_use func table v) o false) entry ∙ use_self v) in
        end_live from v (any_among (live_over func table v (live_front func table v (length func.blocks)) from) (succs func from) to (edge_succs func from to edge)
        (or_left (list_any (uses_entry func table v from) (lines_at func to)) (live_front func table v (length func.blocks) to)
        (any_passes_from_place (uses_entry func table v from) (lines_at func to) k phi stands used)));
  }
