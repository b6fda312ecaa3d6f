-- The versions of all values fit: what the walk backwards gives is kept along each edge.
use Rattle.std.proofs.Common.{◌≡◌, ℕ, zero, suc, ◌<◌, ◌≤◌, ◌+◌, Bool, true, false, not, eqb, if◌then◌else◌, List, [], ◌∷◌, ◌++◌, length, map, replicate, refl, ap, sym, arith, Some, inl, inr, ◌⊎◌, ◌∙◌, ◌&&◌}
use Rattle.std.specs.List.{IsDistinct, AllByRecursion, list_any, flat_map, range_with_len}
use Rattle.std.proofs.lemmas.Bool.{cases_Bool, cases_eq, cases_lt, eqb-true, eq-eqb, ne_eqb, true≢false, false≢true, or_cases, or_parts, and_parts, or_right, or_left, and_from}
use Rattle.std.proofs.lemmas.List.{length-map, get_or_past}
use Rattle.std.proofs.lemmas.Map.Keys.{IsDistinct-cons}
use Rattle.std.proofs.lemmas.Map.Steps.{length-le_from_distinct_below}
use Rattle.sp_ids.specs.declared.ids.BlockId.{BlockId}
use Rattle.ir_ast.specs.declared.ops.Operand.{Operand}
use Rattle.ir_ast.specs.Funcs.{Function}
use Rattle.ir_ast.specs.Edges.{count_of}
use Rattle.ir_cfg.specs.Graphs.{graph_of, succs_of, block_at}
use Rattle.std.specs.Prelude.{Option, slice_index}
use Rattle.std.specs.Option.{option_map_or}
use Rattle.std.proofs.lemmas.Option.{slice_get_past}
use Rattle.ir_ast.specs.Blocks.{BasicBlock}
use Rattle.object_meaning.specs.TargetRuns.{plain_lines}
use Rattle.object_meaning.specs.Lines.{Line, registers_of}
use Rattle.rewriting_forms.specs.Numbered.{among, lines_at, line_at, gives, calls, pointers, preds}
use Rattle.rewriting_forms.specs.Liveness.{is_live, is_live_after, live_list, live_table}
use Rattle.rewriting_forms.specs.Names.{Name, own, relocated, joined, Names, after_line, names_from, names_at_end, listed, stands_in_list, is_many, joins_of, arriving, front_within, full_naming}
use Rattle.rewriting_laws.specs.Laws.{Edge, Reached, at_first, over, IsReached, owner_of, Fits}
use Rattle.rewriting_laws.proofs.NameLemmas.{among_cons, among_here, among_filter, names_value}

-- so many steps lead back to a block without an only predecessor
data Chain (func : Function) : ℕ → ℕ → Type 0 where
  root : (b : ℕ) → ((p : ℕ) → preds func b ≡ p ∷ [] → ⊥) → Chain func b 0
  link : (b p d : ℕ) → preds func b ≡ p ∷ [] → Chain func p d → Chain func b (suc d)

one_depth : (func : Function) (b d e : ℕ) → Chain func b d → Chain func b e → d ≡ e
one_depth func _ _ _ (root b none) (root b' none') = refl
one_depth func _ _ _ (root b none) (link b' p d is chain) = absurd (none p is)
one_depth func _ _ _ (link b p d is chain) (root b' none) = absurd (none p is)
one_depth func _ _ _ (link b p d is chain) (link b' q e is' chain') =
    let lists : p ∷ [] ≡ q ∷ [] = sym is ∙ is' in
    let same : p ≡ q = cc in
    ap suc (one_depth func p d e chain (rw (← same) at chain'))

chain_over : (func : Function) (from to d : ℕ) (ps : List ℕ) → preds func to ≡ ps → among from ps ≡ true → Chain func from d → (e : ℕ) × Chain func to e
chain_over func from to d [] is has chain = absurd (false≢true has)
chain_over func from to d (p ∷ []) is has chain = elim (cases_eq p from) [
  | inl e ↦ (suc d, link to from d (is ∙ ap (λ (x : ℕ). x ∷ []) e) chain)
  | inr ne ↦ absurd (false≢true (among_cons from p [] has ne))
]
chain_over func from to d (p ∷ q ∷ ps) is has chain = (0, root to (λ r one. let e : p ∷ q ∷ ps ≡ r ∷ [] = sym is ∙ one in cc))

chain_of : (func : Function) → IsReached func → (b : ℕ) → Reached func b → (d : ℕ) × Chain func b d
chain_of func graph _ at_first = (0, root 0 (λ p one. let e : [] ≡ p ∷ [] = sym graph.entry ∙ one in cc))
chain_of func graph _ (over from to reached edge) =
    let before = chain_of func graph from reached in
    chain_over func from to before.0 (preds func to) refl edge before.1

abbrev walked : (func : Function) (b d : ℕ) → Chain func b d → List ℕ
walked func _ _ (root b none) = []
walked func _ _ (link b p d is chain) = p ∷ walked func p d chain

walked_length : (func : Function) (b d : ℕ) (chain : Chain func b d) → length (walked func b d chain) ≡ d
walked_length func _ _ (root b none) = refl
walked_length func _ _ (link b p d is chain) = ap suc (walked_length func p d chain)

walked_nearer : (func : Function) (b d : ℕ) (chain : Chain func b d) (x : ℕ) → list_any (eqb x) (walked func b d chain) ≡ true
    → (e : ℕ) × (e < d) × Chain func x e
walked_nearer func _ _ (root b none) x is = absurd (false≢true is)
walked_nearer func _ _ (link b p d from chain) x is = elim (cases_eq x p) [
  | inl e ↦ (d, omega arith, rw e chain)
  | inr ne ↦
      let further = walked_nearer func p d chain x (let h = rw (ne_eqb x p ne) at is in h) in
      (further.0, omega (arith, further.1), further.2)
]

any_apart : (x : ℕ) (xs : List ℕ) → (list_any (eqb x) xs ≡ true → ⊥) → AllByRecursion (λ (y : ℕ). eqb x y ≡ false) xs
any_apart x [] not_in = tt
any_apart x (y ∷ xs) not_in = elim (cases_eq x y) [
  | inl e ↦ absurd (not_in (rw (eq-eqb x y e) refl))
  | inr ne ↦ (ne_eqb x y ne, any_apart x xs (λ is. not_in (rw (ne_eqb x y ne) is)))
]

walked_distinct : (func : Function) (b d : ℕ) (chain : Chain func b d) → IsDistinct eqb (walked func b d chain)
unfolding IsDistinct
walked_distinct func _ _ (root b none) = tt
walked_distinct func _ _ (link b p d is chain) =
    IsDistinct-cons eqb p (walked func p d chain)
    (any_apart p (walked func p d chain) (λ again.
    let nearer = walked_nearer func p d chain p again in
    let same = one_depth func p nearer.0 d nearer.2 chain in
    omega (arith, nearer.1, same)))
    (walked_distinct func p d chain)

-- predecessors are blocks of the function
among_append : (x : ℕ) (xs ys : List ℕ) → among x (xs ++ ys) ≡ true → (among x xs ≡ true) ⊎ (among x ys ≡ true)
among_append x [] ys is = inr is
among_append x (y ∷ xs) ys is = elim (or_cases (eqb y x) (among x (xs ++ ys)) is) [
  | inl here ↦ inl (or_left (eqb y x) (among x xs) here)
  | inr there ↦ elim (among_append x xs ys there) [ inl front ↦ inl (or_right (eqb y x) (among x xs) front) | inr back ↦ inr back ]
]

among_repeat : (x n v : ℕ) → among x (map (λ (l : BlockId). l.0) (replicate n (block_at v))) ≡ true → x ≡ v
among_repeat x zero v is = absurd (false≢true is)
among_repeat x (suc n) v is = elim (or_cases (eqb v x) (among x (map (λ (l : BlockId). l.0) (replicate n (block_at v)))) is) [
  | inl here ↦ sym (eqb-true v x here)
  | inr rest ↦ among_repeat x n v rest
]

map_split : (f : BlockId → ℕ) (xs ys : List BlockId) → map f (xs ++ ys) ≡ map f xs ++ map f ys
map_split f [] ys = refl
map_split f (x ∷ xs) ys = ap (λ (zs : List ℕ). f x ∷ zs) (map_split f xs ys)

preds_below : (g : ℕ → ℕ) (from count x : ℕ)
    → among x (map (λ (l : BlockId). l.0) (flat_map (λ (p : ℕ). replicate (g p) (block_at p)) (range_with_len from count))) ≡ true → x < from + count
preds_below g from zero x is = absurd (false≢true is)
preds_below g from (suc count) x is =
    let rest = flat_map (λ (p : ℕ). replicate (g p) (block_at p)) (range_with_len (from + 1) count) in
    let split = map_split (λ (l : BlockId). l.0) (replicate (g from) (block_at from)) rest in
    elim (among_append x (map (λ (l : BlockId). l.0) (replicate (g from) (block_at from))) (map (λ (l : BlockId). l.0) rest) (ap (among x) (sym split) ∙ is)) [
      | inl here ↦ let e = among_repeat x (g from) from here in omega (arith, e)
      | inr there ↦ let le = preds_below g (from + 1) count x there in omega (arith, le)
    ]

pub edge_within : (func : Function) (from to : ℕ) → Edge func from to → from < length func.blocks
edge_within func from to edge =
    let le = preds_below (λ p. count_of to (succs_of (graph_of func) p)) 0 (length (graph_of func)) from edge in
    let e : length (graph_of func) ≡ length func.blocks = length-map func.blocks _ in
    omega (arith, le, e)

walked_below : (func : Function) (b d : ℕ) (chain : Chain func b d) (x : ℕ) → list_any (eqb x) (walked func b d chain) ≡ true → x < length func.blocks
walked_below func _ _ (root b none) x is = absurd (false≢true is)
walked_below func _ _ (link b p d from chain) x is = elim (cases_eq x p) [
  | inl e ↦
      let here : Edge func p b = ap (among p) from ∙ among_here p [] in
      let below = edge_within func p b here in
      omega (arith, below, e)
  | inr ne ↦ walked_below func p d chain x (let h = rw (ne_eqb x p ne) at is in h)
]

chain_short : (func : Function) (b d : ℕ) → Chain func b d → d ≤ length func.blocks
chain_short func b d chain =
    let le = length-le_from_distinct_below (walked func b d chain) (length func.blocks) (walked_distinct func b d chain) (walked_below func b d chain) in
    omega (arith, walked_length func b d chain, le)

chain_before : (func : Function) (b p d : ℕ) → Chain func b d → preds func b ≡ p ∷ [] → (e : ℕ) × Chain func p e
chain_before func _ p _ (root b none) only = absurd (none p only)
chain_before func _ p _ (link b q d is chain) only =
    let lists : q ∷ [] ≡ p ∷ [] = sym is ∙ only in
    let same : q ≡ p = cc in
    (d, rw (← same) chain)

-- names behind instructions depend on those before them alone
after_same : (func : Function) (table : List Operand) (b k : ℕ) (names others : Names) (v : ℕ) → names v ≡ others v
    → after_line func table b k names v ≡ after_line func table b k others v
after_same func table b k names others v same =
    ap (λ (name : Name). if gives (line_at func b k) v then own v
    else (if calls (line_at func b k) && among v (live_list func table b k) then relocated b k v else name)) same

names_same : (func : Function) (table : List Operand) (b : ℕ) (names others : Names) (v k : ℕ) → names v ≡ others v
    → names_from func table b names k v ≡ names_from func table b others k v
names_same func table b names others v zero same = same
names_same func table b names others v (suc k) same =
    after_same func table b k (names_from func table b names k) (names_from func table b others k) v (names_same func table b names others v k same)

arriving_none : (ps : List ℕ) → ((p : ℕ) → ps ≡ p ∷ [] → ⊥) → (at_end : ℕ → Names) → arriving ps at_end ≡ own
arriving_none [] none at_end = refl
arriving_none (p ∷ []) none at_end = absurd (none p refl)
arriving_none (p ∷ q ∷ ps) none at_end = refl

module _ (func : Function) (table : List Operand) where
  abbrev joins : ℕ → ℕ → Bool
  joins = joins_of func table

  abbrev ends_within : ℕ → ℕ → Names
  ends_within bound p = names_from func table p (front_within func table (joins_of func table) bound p) (length (lines_at func p))

  abbrev entered : ℕ → Names → ℕ → Name
  entered b names v = if joins_of func table b v then joined b v else names v

  -- a bound that is enough is as good as any greater one
  stable : (b d bound v : ℕ) → Chain func b d → d ≤ bound
      → front_within func table (joins_of func table) (suc bound) b v ≡ front_within func table (joins_of func table) bound b v
  stable _ _ zero v (root b none) enough = ap (λ (names : Names). entered b names v) (arriving_none (preds func b) none (ends_within 0))
  stable _ _ (suc bound) v (root b none) enough =
      ap (λ (names : Names). entered b names v) (arriving_none (preds func b) none (ends_within (suc bound)))
      ∙ sym (ap (λ (names : Names). entered b names v) (arriving_none (preds func b) none (ends_within bound)))
  stable _ _ zero v (link b p d is chain) enough = absurd (omega arith)
  stable _ _ (suc bound) v (link b p d is chain) enough =
      ap (λ (ps : List ℕ). entered b (arriving ps (ends_within (suc bound))) v) is
      ∙ ap (λ (name : Name). if joins_of func table b v then joined b v else name)
      (names_same func table p (front_within func table (joins_of func table) (suc bound) p) (front_within func table (joins_of func table) bound p) v (length (lines_at func p))
      (stable p d bound v chain (omega arith)))
      ∙ sym (ap (λ (ps : List ℕ). entered b (arriving ps (ends_within bound)) v) is)

  -- where all blocks are reached the walk backwards goes as far as it must
  pub front_is : IsReached func → (b v : ℕ) → Reached func b
      → (full_naming func table).front b v ≡ (if joins_of func table b v then joined b v else arriving (preds func b) (names_at_end func table (full_naming func table)) v)
  front_is graph b v reached = ap (λ (name : Name). if joins_of func table b v then joined b v else name) (far_enough (preds func b) refl)
    where
      far_enough : (ps : List ℕ) → preds func b ≡ ps
          → arriving ps (ends_within (length func.blocks)) v ≡ arriving ps (names_at_end func table (full_naming func table)) v
      far_enough [] is = refl
      far_enough (p ∷ []) is =
          let chain = chain_of func graph b reached in
          let before = chain_before func b p chain.0 chain.1 is in
          names_same func table p (front_within func table (joins_of func table) (length func.blocks) p) (front_within func table (joins_of func table) (suc (length func.blocks)) p) v
          (length (lines_at func p)) (sym (stable p before.0 (length func.blocks) v before.1 (chain_short func p before.0 before.1)))
      far_enough (p ∷ q ∷ ps) is = refl

  -- a value in no live list keeps its own name
  any_get : (f : ℕ → Bool) (from count k : ℕ) → list_any f (range_with_len from count) ≡ false → k < count → f (from + k) ≡ false
  any_get f from zero k none below = absurd (omega arith)
  any_get f from (suc count) zero none below =
      let e : from + 0 ≡ from = omega arith in
      rw e ((or_parts (f from) (list_any f (range_with_len (from + 1) count)) none).0)
  any_get f from (suc count) (suc k) none below =
      let e : from + suc k ≡ (from + 1) + k = omega arith in
      rw e (any_get f (from + 1) count k ((or_parts (f from) (list_any f (range_with_len (from + 1) count)) none).1) (omega arith))

  pub no_lines : (b : ℕ) → length func.blocks ≤ b → lines_at func b ≡ []
  no_lines b past =
      ap (λ (o : Option BasicBlock). plain_lines (slice_index (registers_of func) b) (option_map_or (λ (block : BasicBlock). block.insts) o [])) (slice_get_past func.blocks b past)

  unlisted : (v b k : ℕ) → stands_in_list func table v ≡ false → listed func table v b k ≡ false
  unlisted v b k none = elim (cases_lt b (length func.blocks)) [
    | inl block ↦
        let in_block = any_get (λ (c : ℕ). list_any (listed func table v c) (range_with_len 0 (length (lines_at func c)))) 0 (length func.blocks) b none block in
        let z : 0 + b ≡ b = omega arith in
        let here = rw z at in_block in
        elim (cases_lt k (length (lines_at func b))) [
          | inl line ↦
              let found = any_get (listed func table v b) 0 (length (lines_at func b)) k here line in
              let y : 0 + k ≡ k = omega arith in
              let h = rw y at found in h
          | inr past ↦ no_call b k past
        ]
    | inr past ↦ no_call b k (rw (no_lines b past) (omega arith))
  ]
    where
      no_call : (b k : ℕ) → length (lines_at func b) ≤ k → listed func table v b k ≡ false
      no_call b k past = ap (λ (line : Line). calls line && among v (live_list func table b k)) (get_or_past (lines_at func b) k _ past)

  own_lines : (b : ℕ) (names : Names) (v k : ℕ) → stands_in_list func table v ≡ false → names v ≡ own v → names_from func table b names k v ≡ own v
  own_lines b names v zero none is = is
  own_lines b names v (suc k) none is = elim (cases_Bool (gives (line_at func b k) v)) [
    | inl given ↦ rw given refl
    | inr other ↦ rw (other, unlisted v b k none) (own_lines b names v k none is)
  ]

  arriving_own : (ps : List ℕ) (at_end : ℕ → Names) (v : ℕ) → ((p : ℕ) → at_end p v ≡ own v) → arriving ps at_end v ≡ own v
  arriving_own [] at_end v each = refl
  arriving_own (p ∷ []) at_end v each = each p
  arriving_own (p ∷ q ∷ ps) at_end v each = refl

  not_joined : (b v : ℕ) → stands_in_list func table v ≡ false → joins_of func table b v ≡ false
  not_joined b v none = ap (λ (t : Bool). is_many (preds func b) && (among v (pointers func) && (t && is_live func table b 0 v))) none
      ∙ both_false (is_many (preds func b)) (among v (pointers func))
    where
      both_false : (s t : Bool) → (s && (t && false)) ≡ false
      both_false true true = refl
      both_false true false = refl
      both_false false t = refl

  own_front : (bound b v : ℕ) → stands_in_list func table v ≡ false → front_within func table (joins_of func table) bound b v ≡ own v
  own_front zero b v none = ap (λ (t : Bool). if t then joined b v else own v) (not_joined b v none)
  own_front (suc bound) b v none =
      ap (λ (t : Bool). if t then joined b v else arriving (preds func b) (ends_within bound) v) (not_joined b v none)
      ∙ arriving_own (preds func b) (ends_within bound) v (λ p.
      own_lines p (front_within func table (joins_of func table) bound p) v (length (lines_at func p)) none (own_front bound p v none))

  pub join_parts : (b v : ℕ) → joins_of func table b v ≡ true
      → (is_many (preds func b) ≡ true) × (among v (pointers func) ≡ true) × (stands_in_list func table v ≡ true) × (is_live func table b 0 v ≡ true)
  join_parts b v is =
      let one = and_parts (is_many (preds func b)) (among v (pointers func) && (stands_in_list func table v && is_live func table b 0 v)) is in
      let two = and_parts (among v (pointers func)) (stands_in_list func table v && is_live func table b 0 v) one.1 in
      let three = and_parts (stands_in_list func table v) (is_live func table b 0 v) two.1 in
      (one.0, two.0, three.0, three.1)

  only_one : (from : ℕ) (ps : List ℕ) → among from ps ≡ true → is_many ps ≡ false → ps ≡ from ∷ []
  only_one from [] has few = absurd (false≢true has)
  only_one from (p ∷ []) has few = elim (cases_eq p from) [
    | inl e ↦ ap (λ (x : ℕ). x ∷ []) e
    | inr ne ↦ absurd (false≢true (among_cons from p [] has ne))
  ]
  only_one from (p ∷ q ∷ ps) has few = absurd (true≢false few)

  -- an edge keeps the name of a live value without an inserted phi
  version_edge : IsReached func → (from to v : ℕ) → Edge func from to → live_table func table to 0 v ≡ true → joins_of func table to v ≡ false
      → (full_naming func table).front to v ≡ names_at_end func table (full_naming func table) from v
  version_edge graph from to v edge alive apart = elim (cases_Bool (stands_in_list func table v)) [
    | inr nowhere ↦
        own_front (suc (length func.blocks)) to v nowhere
        ∙ sym (own_lines from (front_within func table (joins_of func table) (suc (length func.blocks)) from) v (length (lines_at func from)) nowhere
        (own_front (suc (length func.blocks)) from v nowhere))
    | inl listed_somewhere ↦
        let few = not_many graph from to v listed_somewhere alive apart in
        let only : preds func to ≡ from ∷ [] = only_one from (preds func to) edge few in
        let chain = chain_of func graph from (graph.blocks from (edge_within func from to edge)) in
        let short = chain_short func from chain.0 chain.1 in
        ap (λ (t : Bool). if t then joined to v else arriving (preds func to) (ends_within (length func.blocks)) v) apart
        ∙ ap (λ (ps : List ℕ). arriving ps (ends_within (length func.blocks)) v) only
        ∙ names_same func table from (front_within func table (joins_of func table) (length func.blocks) from) (front_within func table (joins_of func table) (suc (length func.blocks)) from) v
        (length (lines_at func from)) (sym (stable from chain.0 (length func.blocks) v chain.1 short))
  ]
    where
      not_many : IsReached func → (from to v : ℕ) → stands_in_list func table v ≡ true → live_table func table to 0 v ≡ true → joins_of func table to v ≡ false
          → is_many (preds func to) ≡ false
      not_many graph from to v listed_somewhere alive apart = elim (cases_Bool (is_many (preds func to))) [
        | inr few ↦ few
        | inl many ↦
            let pointer = listed_pointer v listed_somewhere in
            let here : is_live func table to 0 v ≡ true = elim (or_cases (not (among v (pointers func))) (is_live func table to 0 v) alive) [
              | inl other ↦ absurd (true≢false (sym other ∙ ap not pointer))
              | inr is ↦ is
            ] in
            absurd (true≢false (sym (all_true many pointer listed_somewhere here) ∙ apart))
      ]
        where
          all_true : is_many (preds func to) ≡ true → among v (pointers func) ≡ true → stands_in_list func table v ≡ true → is_live func table to 0 v ≡ true
              → joins_of func table to v ≡ true
          all_true one two three four =
              and_from (is_many (preds func to)) (among v (pointers func) && (stands_in_list func table v && is_live func table to 0 v)) one
              (and_from (among v (pointers func)) (stands_in_list func table v && is_live func table to 0 v) two
              (and_from (stands_in_list func table v) (is_live func table to 0 v) three four))

          any_find : (f : ℕ → Bool) (xs : List ℕ) → list_any f xs ≡ true → (x : ℕ) × (f x ≡ true)
          any_find f [] is = absurd (false≢true is)
          any_find f (x ∷ xs) is = elim (or_cases (f x) (list_any f xs) is) [ inl here ↦ (x, here) | inr there ↦ any_find f xs there ]

          listed_pointer : (v : ℕ) → stands_in_list func table v ≡ true → among v (pointers func) ≡ true
          listed_pointer v is =
              let block = any_find (λ (c : ℕ). list_any (listed func table v c) (range_with_len 0 (length (lines_at func c)))) (range_with_len 0 (length func.blocks)) is in
              let place = any_find (listed func table v block.0) (range_with_len 0 (length (lines_at func block.0))) block.1 in
              let parts = and_parts (calls (line_at func block.0 place.0)) (among v (live_list func table block.0 place.0)) place.1 in
              (among_filter (λ (x : ℕ). is_live_after func table block.0 place.0 x && not (gives (line_at func block.0 place.0) x)) v (pointers func) parts.1).0

  arriving_value : (ps : List ℕ) (at_end : ℕ → Names) (v : ℕ) → ((p : ℕ) → owner_of (at_end p v) ≡ Some v) → owner_of (arriving ps at_end v) ≡ Some v
  arriving_value [] at_end v each = refl
  arriving_value (p ∷ []) at_end v each = each p
  arriving_value (p ∷ q ∷ ps) at_end v each = refl

  front_value : (bound b v : ℕ) → owner_of (front_within func table (joins_of func table) bound b v) ≡ Some v
  front_value zero b v = elim (cases_Bool (joins_of func table b v)) [ inl is ↦ ap (λ (t : Bool). owner_of (if t then joined b v else own v)) is | inr none ↦ ap (λ (t : Bool). owner_of (if t then joined b v else own v)) none ]
  front_value (suc bound) b v =
      let before = arriving_value (preds func b) (ends_within bound) v (λ p.
      names_value func table (full_naming func table) p (front_within func table (joins_of func table) bound p) v (length (lines_at func p)) (front_value bound p v)) in
      elim (cases_Bool (joins_of func table b v)) [
        | inl is ↦ ap (λ (t : Bool). owner_of (if t then joined b v else arriving (preds func b) (ends_within bound) v)) is
        | inr none ↦ ap (λ (t : Bool). owner_of (if t then joined b v else arriving (preds func b) (ends_within bound) v)) none ∙ before
      ]

  -- the versions fit
  pub versions_fit : IsReached func → Fits func table (full_naming func table) (live_table func table)
  versions_fit graph = record {
    own_value = front_value (suc (length func.blocks));
    at_entry = λ v alive.
        ap (λ (t : Bool). if t then joined 0 v else arriving (preds func 0) (ends_within (length func.blocks)) v) (entry_apart graph v)
        ∙ ap (λ (ps : List ℕ). arriving ps (ends_within (length func.blocks)) v) graph.entry;
    no_join = entry_apart graph;
    at_join = λ b v is.
        let parts = join_parts b v is in (
          ap (λ (t : Bool). if t then joined b v else arriving (preds func b) (ends_within (length func.blocks)) v) is,
          parts.1,
          or_right (not (among v (pointers func))) (is_live func table b 0 v) parts.3,
        );
    at_edge = version_edge graph;
  }
    where
      entry_apart : IsReached func → (v : ℕ) → joins_of func table 0 v ≡ false
      entry_apart graph v = ap (λ (ps : List ℕ). is_many ps && (among v (pointers func) && (stands_in_list func table v && is_live func table 0 0 v))) graph.entry
