-- No name stands twice in the text of a rewritten function.
use Rattle.std.proofs.Common.{◌≡◌, ℕ, zero, suc, ◌<◌, ◌≤◌, ◌+◌, Bool, true, false, not, eqb, if◌then◌else◌, List, [], ◌∷◌, ◌++◌, length, map, filter, take, refl, ap, sym, arith, Some, None, Option, slice_get, inl, inr, ◌⊎◌, ◌∙◌, ◌&&◌, subst, is_some}
use Rattle.std.specs.Prelude.{slice_index}
use Rattle.std.specs.List.{flat_map, range_with_len}
use Rattle.std.specs.Option.{option_map_or}
use Rattle.std.proofs.lemmas.Bool.{cases_Bool, cases_lt, ne_eqb}
use Rattle.std.proofs.lemmas.Option.{slice_get_within, slice_get-get_or}
use Rattle.std.proofs.lemmas.List.FromFn.{length-range_with_len}
use Rattle.ir_ast.specs.declared.ops.Operand.{Operand}
use Rattle.ir_ast.specs.Types.{is_pointer}
use Rattle.ir_ast.specs.Values.{value_types}
use Rattle.ir_ast.specs.Insts.{Instruction}
use Rattle.ir_ast.specs.Blocks.{BasicBlock}
use Rattle.ir_ast.specs.Funcs.{Function}
use Rattle.object_meaning.specs.Lines.{Line, numbered, following, after_all, first_registers, registers_of, insts_in}
use Rattle.object_meaning.specs.TargetRuns.{plain_lines}
use Rattle.rewriting_forms.specs.Numbered.{lines_at, line_at, gives, calls, pointers}
use Rattle.rewriting_forms.specs.Liveness.{is_live_after, live_list}
use Rattle.rewriting_forms.specs.Names.{Name, own, relocated, joined, token, Naming}
use Rattle.rewriting_forms.specs.Rewritten.{same_name, line_names, joined_at, block_names, names_of}
use Rattle.rewriting_laws.proofs.PlaceLaws.{Apart}
use Rattle.list_laws.proofs.Ranges.{range_back}
use Rattle.list_laws.proofs.Places.{get_joined}

-- a name of a list
abbrev Has : List Name → Name → Type 0
Has names name = (i : ℕ) × (slice_get names i ≡ Some name)

apart_append : (xs ys : List Name) → Apart xs → Apart ys → ((one other : Name) → Has xs one → Has ys other → same_name one other ≡ false) → Apart (xs ++ ys)
apart_append xs ys first second cross i j one other below one_is other_is =
    both (get_joined xs ys i one one_is) (get_joined xs ys j other other_is)
  where
    both : (slice_get xs i ≡ Some one) ⊎ ((k : ℕ) × (length xs + k ≡ i) × (slice_get ys k ≡ Some one))
        → (slice_get xs j ≡ Some other) ⊎ ((k : ℕ) × (length xs + k ≡ j) × (slice_get ys k ≡ Some other)) → same_name one other ≡ false
    both (inl here) (inl there) = first i j one other below here there
    both (inl here) (inr there) = cross one other (i, here) (there.0, there.2)
    both (inr here) (inl there) =
        let within = slice_get_within xs j other there in
        let e = here.1 in
        absurd (omega arith)
    both (inr here) (inr there) =
        let e = here.1 in
        let e' = there.1 in
        second here.0 there.0 one other (omega arith) here.2 there.2

-- lists joined end to end, where names of different ones differ
has_flat : (f : ℕ → List Name) (from count : ℕ) (name : Name) → Has (flat_map f (range_with_len from count)) name → (k : ℕ) × (from ≤ k) × (k < from + count) × Has (f k) name
has_flat f from zero name has = absurd (let h = has.1 in cc)
has_flat f from (suc count) name has = elim (get_joined (f from) (flat_map f (range_with_len (from + 1) count)) has.0 name has.1) [
  | inl here ↦ (from, omega arith, omega arith, (has.0, here))
  | inr there ↦
      let rest = has_flat f (from + 1) count name (there.0, there.2) in
      (rest.0, omega (arith, rest.1), omega (arith, rest.2), rest.3)
]

apart_flat : (f : ℕ → List Name) (from count : ℕ) → ((k : ℕ) → from ≤ k → k < from + count → Apart (f k))
    → ((k j : ℕ) (one other : Name) → from ≤ k → k < j → j < from + count → Has (f k) one → Has (f j) other → same_name one other ≡ false)
    → Apart (flat_map f (range_with_len from count))
apart_flat f from zero each cross = λ i j one other below one_is other_is. absurd (let h : None ≡ Some one = one_is in cc)
apart_flat f from (suc count) each cross =
    apart_append (f from) (flat_map f (range_with_len (from + 1) count)) (each from (omega arith) (omega arith))
    (apart_flat f (from + 1) count (λ k le lt. each k (omega arith) (omega arith)) (λ k j one other le below lt. cross k j one other (omega arith) below (omega arith)))
    (λ one other has has'.
    let there = has_flat f (from + 1) count other has' in
    cross from there.0 one other (omega arith) (omega (arith, there.1)) (omega (arith, there.2)) has there.3)

-- values that stand once
abbrev Once : List ℕ → Type 0
Once xs = (i j x y : ℕ) → i < j → slice_get xs i ≡ Some x → slice_get xs j ≡ Some y → x ≡ y → ⊥

once_range : (from count : ℕ) → Once (range_with_len from count)
once_range from count i j x y below x_is y_is same =
    let a = range_back from count i x x_is in
    let b = range_back from count j y y_is in
    omega (arith, a, b)

-- the place of what a filter keeps, in the whole list
filter_place : (p : ℕ → Bool) (xs : List ℕ) (i x : ℕ) → slice_get (filter p xs) i ≡ Some x → (k : ℕ) × (i ≤ k) × (slice_get xs k ≡ Some x)
filter_place p [] i x is = absurd (cc)
filter_place p (y ∷ xs) i x is = elim (cases_Bool (p y)) [
  | inr fails ↦ let rest = filter_place p xs i x (let h = rw fails at is in h) in (suc rest.0, omega (arith, rest.1), rest.2)
  | inl passes ↦ kept i (let h = rw passes at is in h) (λ j j_is. filter_place p xs j x j_is)
]
  where
    kept : (i : ℕ) → slice_get (y ∷ filter p xs) i ≡ Some x → ((j : ℕ) → slice_get (filter p xs) j ≡ Some x → (k : ℕ) × (j ≤ k) × (slice_get xs k ≡ Some x))
        → (k : ℕ) × (i ≤ k) × (slice_get (y ∷ xs) k ≡ Some x)
    kept zero is rest = (0, omega arith, is)
    kept (suc i) is rest = let later = rest i is in (suc later.0, omega (arith, later.1), later.2)

once_filter : (p : ℕ → Bool) (xs : List ℕ) → Once xs → Once (filter p xs)
once_filter p [] once = λ i j x y below x_is y_is same. let h : None ≡ Some x = x_is in cc
once_filter p (z ∷ xs) once = elim (cases_Bool (p z)) [
  | inr fails ↦ rw fails (once_filter p xs (tail once))
  | inl passes ↦ rw passes (front (once_filter p xs (tail once)))
]
  where
    tail : Once (z ∷ xs) → Once xs
    tail once i j x y below x_is y_is same = once (suc i) (suc j) x y (omega arith) x_is y_is same

    front : Once (filter p xs) → Once (z ∷ filter p xs)
    front rest zero zero x y below x_is y_is same = omega arith
    front rest zero (suc j) x y below x_is y_is same =
        let place = filter_place p xs j y y_is in
        once 0 (suc place.0) x y (omega arith) x_is place.2 same
    front rest (suc i) zero x y below x_is y_is same = omega arith
    front rest (suc i) (suc j) x y below x_is y_is same = rest i j x y (omega arith) x_is y_is same

map_get : (f : ℕ → Name) (xs : List ℕ) (i : ℕ) (name : Name) → slice_get (map f xs) i ≡ Some name → (x : ℕ) × (slice_get xs i ≡ Some x) × (f x ≡ name)
map_get f [] i name is = absurd (cc)
map_get f (x ∷ xs) zero name is = (x, refl, cc)
map_get f (x ∷ xs) (suc i) name is = map_get f xs i name is

apart_map : (f : ℕ → Name) (xs : List ℕ) → Once xs → ((x y : ℕ) → (x ≡ y → ⊥) → same_name (f x) (f y) ≡ false) → Apart (map f xs)
apart_map f xs once differ i j one other below one_is other_is =
    let a = map_get f xs i one one_is in
    let b = map_get f xs j other other_is in
    rw (← a.2, ← b.2) (differ a.0 b.0 (once i j a.0 b.0 below a.1 b.1))

module _ (func : Function) (table : List Operand) (naming : Naming) where
  abbrev reg : ℕ → ℕ
  reg b = slice_index (registers_of func) b

  -- the register of the next result before a line of a block
  abbrev start : ℕ → ℕ → ℕ
  start b k = after_all (reg b) (take k (insts_in func b))

  line_get : (next : ℕ) (insts : List Instruction) (k : ℕ) (line : Line) → slice_get (plain_lines next insts) k ≡ Some line
      → (line ≡ numbered (after_all next (take k insts)) line.inst) × (after_all next (take (suc k) insts) ≡ following (after_all next (take k insts)) line.inst)
  line_get next [] k line is = absurd (cc)
  line_get next (inst ∷ insts) zero line is =
      let e : numbered next inst ≡ line = cc in
      let same : inst ≡ line.inst = ap (λ (l : Line). l.inst) e in
      (sym e ∙ ap (numbered next) same, ap (following next) same)
  line_get next (inst ∷ insts) (suc k) line is = line_get (following next inst) insts k line is

  -- what a line gives is the next register, and it goes on behind it
  gives_next : (b k : ℕ) (line : Line) (x : ℕ) → slice_get (lines_at func b) k ≡ Some line → line.to ≡ Some x → (x ≡ start b k) × (start b (suc k) ≡ suc x)
  gives_next b k line x stands to =
      let get = line_get (reg b) (insts_in func b) k line stands in
      by_result (is_some line.inst.result) refl (sym to ∙ ap (λ (l : Line). l.to) get.0) get.1
    where
      by_result : (t : Bool) → is_some line.inst.result ≡ t → Some x ≡ (if is_some line.inst.result then Some (start b k) else None)
          → start b (suc k) ≡ following (start b k) line.inst → (x ≡ start b k) × (start b (suc k) ≡ suc x)
      by_result true is given next =
          let e : Some x ≡ Some (start b k) = given ∙ ap (λ (t : Bool). if t then Some (start b k) else None) is in
          let same : x ≡ start b k = cc in
          let on : start b (suc k) ≡ start b k + 1 = next ∙ ap (λ (t : Bool). if t then start b k + 1 else start b k) is in
          (same, omega (arith, on, same))
      by_result false is given next =
          let e : Some x ≡ None = given ∙ ap (λ (t : Bool). if t then Some (start b k) else None) is in
          absurd (cc)

  following_up : (next : ℕ) (inst : Instruction) → next ≤ following next inst
  following_up next inst = elim (cases_Bool (is_some inst.result)) [ inl is ↦ rw is (omega arith) | inr none ↦ rw none (omega arith) ]

  after_up : (next : ℕ) (insts : List Instruction) → next ≤ after_all next insts
  after_up next [] = omega arith
  after_up next (inst ∷ insts) = let one = following_up next inst in let rest = after_up (following next inst) insts in omega (arith, one, rest)

  after_take : (next : ℕ) (insts : List Instruction) (k j : ℕ) → k ≤ j → after_all next (take k insts) ≤ after_all next (take j insts)
  after_take next [] k j le = let e = empty k in let e' = empty j in omega (arith, e, e')
    where
      empty : (k : ℕ) → after_all next (take k []) ≡ next
      empty zero = refl
      empty (suc k) = refl
  after_take next (inst ∷ insts) zero j le = after_up next (take j (inst ∷ insts))
  after_take next (inst ∷ insts) (suc k) zero le = absurd (omega arith)
  after_take next (inst ∷ insts) (suc k) (suc j) le = after_take (following next inst) insts k j (omega arith)

  start_up : (b k j : ℕ) → k ≤ j → start b k ≤ start b j
  start_up b k j le = after_take (reg b) (insts_in func b) k j le

  -- what the names of a line are
  abbrev InLine : ℕ → ℕ → Name → Type 0
  InLine b k (own v) = (start b k ≤ v) × (v < start b (suc k))
  InLine b k (relocated c j v) = (c ≡ b) × (j ≡ k)
  InLine b k (token c j) = (c ≡ b) × (j ≡ k)
  InLine b k (joined c v) = ⊥

  line_has : (b k : ℕ) (name : Name) → k < length (lines_at func b) → Has (line_names func table b k) name → InLine b k name
  line_has b k name within has =
      elim (get_joined (if calls (line_at func b k) then token b k ∷ [] else []) (option_map_or (λ (x : ℕ). own x ∷ []) (line_at func b k).to [] ++ (if calls (line_at func b k) then map (relocated b k) (live_list func table b k) else [])) has.0 name has.1) [
        | inl one ↦ of_token (calls (line_at func b k)) has.0 one
        | inr rest ↦ elim (get_joined (option_map_or (λ (x : ℕ). own x ∷ []) (line_at func b k).to []) (if calls (line_at func b k) then map (relocated b k) (live_list func table b k) else []) rest.0 name rest.2) [
          | inl mine ↦ of_own (line_at func b k).to refl rest.0 mine
          | inr relocates ↦ of_relocates (calls (line_at func b k)) relocates.0 relocates.2
        ]
      ]
    where
      of_token : (t : Bool) (i : ℕ) → slice_get (if t then token b k ∷ [] else []) i ≡ Some name → InLine b k name
      of_token true zero is = let e : token b k ≡ name = cc in subst (InLine b k) e (refl, refl)
      of_token true (suc i) is = absurd (cc)
      of_token false i is = absurd (cc)

      of_own : (to : Option ℕ) → (line_at func b k).to ≡ to → (i : ℕ) → slice_get (option_map_or (λ (x : ℕ). own x ∷ []) to []) i ≡ Some name → InLine b k name
      of_own None to i is = absurd (cc)
      of_own (Some x) to (suc i) is = absurd (cc)
      of_own (Some x) to zero is =
          let e : own x ≡ name = cc in
          let next = gives_next b k (line_at func b k) x (slice_get-get_or (lines_at func b) k _ within) to in
          subst (InLine b k) e (omega (arith, next.0), omega (arith, next.1))

      of_relocates : (t : Bool) (i : ℕ) → slice_get (if t then map (relocated b k) (live_list func table b k) else []) i ≡ Some name → InLine b k name
      of_relocates true i is = let get = map_get (relocated b k) (live_list func table b k) i name is in subst (InLine b k) get.2 (refl, refl)
      of_relocates false i is = absurd (cc)

  lines_differ : (b k j : ℕ) (one other : Name) → k < j → InLine b k one → InLine b j other → same_name one other ≡ false
  lines_differ b k j (own v) (own w) below here there =
      let up = start_up b (suc k) j below in
      ne_eqb v w (λ same. omega (arith, here.1, there.0, up, same))
  lines_differ b k j (own v) (relocated c i w) below here there = refl
  lines_differ b k j (own v) (token c i) below here there = refl
  lines_differ b k j (own v) (joined c w) below here there = refl
  lines_differ b k j (relocated c i v) (own w) below here there = refl
  lines_differ b k j (relocated c i v) (relocated d h w) below here there =
      let apart : i ≡ h → ⊥ = λ same. omega (arith, here.1, there.1, same) in
      ap (λ (t : Bool). (eqb c d && t) && eqb v w) (ne_eqb i h apart) ∙ none (eqb c d) (eqb v w)
    where
      none : (s t : Bool) → ((s && false) && t) ≡ false
      none true t = refl
      none false t = refl
  lines_differ b k j (relocated c i v) (token d h) below here there = refl
  lines_differ b k j (relocated c i v) (joined d w) below here there = refl
  lines_differ b k j (token c i) (own w) below here there = refl
  lines_differ b k j (token c i) (relocated d h w) below here there = refl
  lines_differ b k j (token c i) (token d h) below here there =
      let apart : i ≡ h → ⊥ = λ same. omega (arith, here.1, there.1, same) in
      ap (λ (t : Bool). eqb c d && t) (ne_eqb i h apart) ∙ none (eqb c d)
    where
      none : (s : Bool) → (s && false) ≡ false
      none true = refl
      none false = refl
  lines_differ b k j (token c i) (joined d w) below here there = refl
  lines_differ b k j (joined c v) other below here there = absurd here

  apart_none : Apart []
  apart_none i j one other below one_is other_is = absurd (cc)

  apart_one : (name : Name) → Apart (name ∷ [])
  apart_one name zero zero one other below one_is other_is = absurd (omega arith)
  apart_one name zero (suc j) one other below one_is other_is = absurd (cc)
  apart_one name (suc i) j one other below one_is other_is = absurd (cc)

  once_pointers : Once (pointers func)
  once_pointers =
      once_filter (λ (v : ℕ). option_map_or is_pointer (slice_get (value_types func) v) false) (range_with_len 0 (length (value_types func)))
      (once_range 0 (length (value_types func)))

  relocated_apart : (b k x y : ℕ) → (x ≡ y → ⊥) → same_name (relocated b k x) (relocated b k y) ≡ false
  relocated_apart b k x y other = ap (λ (t : Bool). (eqb b b && eqb k k) && t) (ne_eqb x y other) ∙ none (eqb b b && eqb k k)
    where
      none : (s : Bool) → (s && false) ≡ false
      none true = refl
      none false = refl

  joined_apart : (b x y : ℕ) → (x ≡ y → ⊥) → same_name (joined b x) (joined b y) ≡ false
  joined_apart b x y other = ap (λ (t : Bool). eqb b b && t) (ne_eqb x y other) ∙ none (eqb b b)
    where
      none : (s : Bool) → (s && false) ≡ false
      none true = refl
      none false = refl

  line_apart : (b k : ℕ) → Apart (line_names func table b k)
  line_apart b k =
      apart_append (if calls (line_at func b k) then token b k ∷ [] else []) (option_map_or (λ (x : ℕ). own x ∷ []) (line_at func b k).to [] ++ (if calls (line_at func b k) then map (relocated b k) (live_list func table b k) else []))
      (first_apart (calls (line_at func b k)))
      (apart_append (option_map_or (λ (x : ℕ). own x ∷ []) (line_at func b k).to []) (if calls (line_at func b k) then map (relocated b k) (live_list func table b k) else [])
      (own_apart (line_at func b k).to) (list_apart (calls (line_at func b k)))
      (λ one other has has'. owns_relocates (line_at func b k).to (calls (line_at func b k)) one other has has'))
      (λ one other has has'. tokens (calls (line_at func b k)) (line_at func b k).to (calls (line_at func b k)) one other has has')
    where
      first_apart : (t : Bool) → Apart (if t then token b k ∷ [] else [])
      first_apart true = apart_one (token b k)
      first_apart false = apart_none

      own_apart : (to : Option ℕ) → Apart (option_map_or (λ (x : ℕ). own x ∷ []) to [])
      own_apart None = apart_none
      own_apart (Some x) = apart_one (own x)

      list_apart : (t : Bool) → Apart (if t then map (relocated b k) (live_list func table b k) else [])
      list_apart true = apart_map (relocated b k) (live_list func table b k) (once_filter (λ (v : ℕ). is_live_after func table b k v && not (gives (line_at func b k) v)) (pointers func) once_pointers) (relocated_apart b k)
      list_apart false = apart_none

      of_list : (t : Bool) (other : Name) (i : ℕ) → slice_get (if t then map (relocated b k) (live_list func table b k) else []) i ≡ Some other → (v : ℕ) × (relocated b k v ≡ other)
      of_list true other i is = let get = map_get (relocated b k) (live_list func table b k) i other is in (get.0, get.2)
      of_list false other i is = absurd (cc)

      of_own : (to : Option ℕ) (one : Name) (i : ℕ) → slice_get (option_map_or (λ (x : ℕ). own x ∷ []) to []) i ≡ Some one → (v : ℕ) × (own v ≡ one)
      of_own None one i is = absurd (cc)
      of_own (Some x) one zero is = (x, cc)
      of_own (Some x) one (suc i) is = absurd (cc)

      owns_relocates : (to : Option ℕ) (t : Bool) (one other : Name) → Has (option_map_or (λ (x : ℕ). own x ∷ []) to []) one
          → Has (if t then map (relocated b k) (live_list func table b k) else []) other → same_name one other ≡ false
      owns_relocates to t one other has has' =
          let a = of_own to one has.0 has.1 in
          let c = of_list t other has'.0 has'.1 in
          rw (← a.1, ← c.1) refl

      of_token : (t : Bool) (one : Name) (i : ℕ) → slice_get (if t then token b k ∷ [] else []) i ≡ Some one → token b k ≡ one
      of_token true one zero is = cc
      of_token true one (suc i) is = absurd (cc)
      of_token false one i is = absurd (cc)

      tokens : (t : Bool) (to : Option ℕ) (u : Bool) (one other : Name) → Has (if t then token b k ∷ [] else []) one
          → Has (option_map_or (λ (x : ℕ). own x ∷ []) to [] ++ (if u then map (relocated b k) (live_list func table b k) else [])) other → same_name one other ≡ false
      tokens t to u one other has has' =
          let a = of_token t one has.0 has.1 in
          elim (get_joined (option_map_or (λ (x : ℕ). own x ∷ []) to []) (if u then map (relocated b k) (live_list func table b k) else []) has'.0 other has'.1) [
            | inl mine ↦ let c = of_own to other has'.0 mine in rw (← a, ← c.1) refl
            | inr relocates ↦ let c = of_list u other relocates.0 relocates.2 in rw (← a, ← c.1) refl
          ]

  -- what the names of a block are
  abbrev InBlock : ℕ → Name → Type 0
  InBlock b (own v) = (reg b ≤ v) × (v < reg (suc b))
  InBlock b (relocated c j v) = c ≡ b
  InBlock b (token c j) = c ≡ b
  InBlock b (joined c v) = c ≡ b

  firsts : (next : ℕ) (blocks : List BasicBlock) (i : ℕ) → i < length blocks
      → slice_index (first_registers next blocks) (suc i) ≡ after_all (slice_index (first_registers next blocks) i) (option_map_or (λ (block : BasicBlock). block.insts) (slice_get blocks i) [])
  firsts next [] i below = absurd (omega arith)
  firsts next (block ∷ []) zero below = refl
  firsts next (block ∷ other ∷ blocks) zero below = refl
  firsts next (block ∷ blocks) (suc i) below = firsts (after_all next block.insts) blocks i (omega arith)

  reg_next : (b : ℕ) → b < length func.blocks → reg (suc b) ≡ after_all (reg b) (insts_in func b)
  reg_next b below = firsts (length func.args) func.blocks b below

  reg_up : (b c : ℕ) → b ≤ c → c ≤ length func.blocks → reg b ≤ reg c
  reg_up b zero le below = let e : b ≡ 0 = omega arith in rw e (omega arith)
  reg_up b (suc c) le below = elim (cases_lt b (suc c)) [
    | inl lt ↦
        let before = reg_up b c (omega arith) (omega arith) in
        let next = reg_next c (omega arith) in
        let up = after_up (reg c) (insts_in func c) in
        omega (arith, before, next, up)
    | inr ge ↦ let e : b ≡ suc c = omega arith in rw e (omega arith)
  ]

  plain_length : (next : ℕ) (insts : List Instruction) → length (plain_lines next insts) ≡ length insts
  plain_length next [] = refl
  plain_length next (inst ∷ insts) = ap suc (plain_length (following next inst) insts)

  take_all : {A : Type 0} (xs : List A) → take (length xs) xs ≡ xs
  take_all [] = refl
  take_all (x ∷ xs) = ap (λ (ys : List _). x ∷ ys) (take_all xs)

  in_block : (b k : ℕ) (name : Name) → b < length func.blocks → k < length (lines_at func b) → InLine b k name → InBlock b name
  in_block b k (own v) below within here =
      let low = after_up (reg b) (take k (insts_in func b)) in
      let count = plain_length (reg b) (insts_in func b) in
      let high = start_up b (suc k) (length (insts_in func b)) (omega (arith, count, within)) in
      let whole : start b (length (insts_in func b)) ≡ reg (suc b) = ap (after_all (reg b)) (take_all (insts_in func b)) ∙ sym (reg_next b below) in
      (omega (arith, low, here.0), omega (arith, here.1, high, whole))
  in_block b k (relocated c j v) below within here = here.0
  in_block b k (token c j) below within here = here.0
  in_block b k (joined c v) below within here = absurd here

  block_has : (b : ℕ) (name : Name) → b < length func.blocks → Has (block_names func table naming b) name → InBlock b name
  block_has b name below has =
      elim (get_joined (map (joined b) (joined_at func naming b)) (flat_map (line_names func table b) (range_with_len 0 (length (lines_at func b)))) has.0 name has.1) [
        | inl front ↦ let get = map_get (joined b) (joined_at func naming b) has.0 name front in subst (InBlock b) get.2 refl
        | inr rest ↦
            let at = has_flat (line_names func table b) 0 (length (lines_at func b)) name (rest.0, rest.2) in
            let within : at.0 < length (lines_at func b) = omega (arith, at.2) in
            in_block b at.0 name below within (line_has b at.0 name within at.3)
      ]

  block_apart : (b : ℕ) → Apart (block_names func table naming b)
  block_apart b =
      apart_append (map (joined b) (joined_at func naming b)) (flat_map (line_names func table b) (range_with_len 0 (length (lines_at func b))))
      (apart_map (joined b) (joined_at func naming b) (once_filter (naming.joins b) (pointers func) once_pointers) (joined_apart b))
      (apart_flat (line_names func table b) 0 (length (lines_at func b)) (λ k le lt. line_apart b k)
      (λ k j one other le below lt has has'. lines_differ b k j one other below (line_has b k one (omega arith) has) (line_has b j other (omega arith) has')))
      (λ one other has has'.
      let get = map_get (joined b) (joined_at func naming b) has.0 one has.1 in
      let at = has_flat (line_names func table b) 0 (length (lines_at func b)) other has' in
      let within : at.0 < length (lines_at func b) = omega (arith, at.2) in
      rw (← get.2) (no_join get.0 at.0 other (line_has b at.0 other within at.3)))
    where
      no_join : (v k : ℕ) (other : Name) → InLine b k other → same_name (joined b v) other ≡ false
      no_join v k (own w) here = refl
      no_join v k (relocated c j w) here = refl
      no_join v k (token c j) here = refl
      no_join v k (joined c w) here = absurd here

  blocks_differ : (b c : ℕ) (one other : Name) → b < c → c < length func.blocks → InBlock b one → InBlock c other → same_name one other ≡ false
  blocks_differ b c (own v) (own w) below within here there =
      let up = reg_up (suc b) c below (omega arith) in
      ne_eqb v w (λ same. omega (arith, here.1, there.0, up, same))
  blocks_differ b c (own v) (relocated d i w) below within here there = refl
  blocks_differ b c (own v) (token d i) below within here there = refl
  blocks_differ b c (own v) (joined d w) below within here there = refl
  blocks_differ b c (relocated d i v) (own w) below within here there = refl
  blocks_differ b c (relocated d i v) (relocated e h w) below within here there =
      ap (λ (t : Bool). (t && eqb i h) && eqb v w) (ne_eqb d e (λ same. omega (arith, here, there, same)))
  blocks_differ b c (relocated d i v) (token e h) below within here there = refl
  blocks_differ b c (relocated d i v) (joined e w) below within here there = refl
  blocks_differ b c (token d i) (own w) below within here there = refl
  blocks_differ b c (token d i) (relocated e h w) below within here there = refl
  blocks_differ b c (token d i) (token e h) below within here there =
      ap (λ (t : Bool). t && eqb i h) (ne_eqb d e (λ same. omega (arith, here, there, same)))
  blocks_differ b c (token d i) (joined e w) below within here there = refl
  blocks_differ b c (joined d v) (own w) below within here there = refl
  blocks_differ b c (joined d v) (relocated e h w) below within here there = refl
  blocks_differ b c (joined d v) (token e h) below within here there = refl
  blocks_differ b c (joined d v) (joined e w) below within here there =
      ap (λ (t : Bool). t && eqb v w) (ne_eqb d e (λ same. omega (arith, here, there, same)))

  -- no name stands twice
  pub names_apart : Apart (names_of func table naming)
  names_apart =
      apart_append (map own (range_with_len 0 (length func.args))) (flat_map (block_names func table naming) (range_with_len 0 (length func.blocks)))
      (apart_map own (range_with_len 0 (length func.args)) (once_range 0 (length func.args)) (λ x y other. ne_eqb x y other))
      (apart_flat (block_names func table naming) 0 (length func.blocks) (λ b le lt. block_apart b)
      (λ b c one other le below lt has has'. blocks_differ b c one other below (omega arith) (block_has b one (omega arith) has) (block_has c other (omega arith) has')))
      (λ one other has has'.
      let get = map_get own (range_with_len 0 (length func.args)) has.0 one has.1 in
      let place = range_back 0 (length func.args) has.0 get.0 get.1 in
      let short = slice_get_within (range_with_len 0 (length func.args)) has.0 get.0 get.1 in
      let count = length-range_with_len 0 (length func.args) in
      let at = has_flat (block_names func table naming) 0 (length func.blocks) other has' in
      let in_one : at.0 < length func.blocks = omega (arith, at.2) in
      rw (← get.2) (argument get.0 at.0 other (omega (arith, place, short, count)) in_one (block_has at.0 other in_one at.3)))
    where
      argument : (v b : ℕ) (other : Name) → v < length func.args → b < length func.blocks → InBlock b other → same_name (own v) other ≡ false
      argument v b (own w) below within here =
          let up = reg_up 0 b (omega arith) (omega arith) in
          let first : reg 0 ≡ length func.args = first_is (length func.args) func.blocks in
          ne_eqb v w (λ same. omega (arith, here.0, up, first, same))
        where
          first_is : (next : ℕ) (blocks : List BasicBlock) → slice_index (first_registers next blocks) 0 ≡ next
          first_is next [] = refl
          first_is next (block ∷ blocks) = refl
      argument v b (relocated c i w) below within here = refl
      argument v b (token c i) below within here = refl
      argument v b (joined c w) below within here = refl
