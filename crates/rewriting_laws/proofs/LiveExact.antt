-- The test of liveness answers true exactly where some walk reaches a use before a definition.
use Rattle.std.proofs.Common.{◌≡◌, ℕ, zero, suc, ◌≤◌, ◌+◌, Bool, true, false, not, eqb, leb, ltb, List, [], ◌∷◌, length, drop, map, refl, ap, sym, arith, Some, None, Option, slice_get, inl, inr, ◌∙◌, ◌&&◌, subst}
use Rattle.std.specs.List.{list_any, position_or_len, Contains}
use Rattle.std.specs.Option.{option_map_or}
use Rattle.std.proofs.lemmas.Bool.{cases_Bool, eqb-true, eq-eqb, false≢true, or_left, or_right, or_cases, and_from, and_parts, leb-true, le-leb, ltb-true, not_from_false, not-true}
use Rattle.std.proofs.lemmas.Option.{slice_get_within}
use Rattle.sp_ids.specs.declared.ids.BlockId.{BlockId}
use Rattle.ir_ast.specs.declared.types.Ty.{Ty}
use Rattle.ir_ast.specs.declared.ops.Operand.{Operand}
use Rattle.ir_ast.specs.declared.ops.Operand.TheVariants.{Value, Int, Null, Fun}
use Rattle.ir_ast.specs.Insts.{Instruction}
use Rattle.ir_ast.specs.Funcs.{Function}
use Rattle.ir_ast.specs.Faults.PhiEdges.{is_phi}
use Rattle.object_meaning.specs.Lines.{Line}
use Rattle.list_laws.proofs.Places.{get_some, drop_whole}
use Rattle.list_laws.proofs.Contents.{contains_get, get_contained}
use Rattle.rewriting_forms.specs.Numbered.{named, among, lines_at, gives, pointers, base_at, succs}
use Rattle.rewriting_forms.specs.Liveness.{IsUse, IsEntry, PhisAgree, Live, used, held, later, entry, crosses, is_value, is_use, any_use, any_held, incoming, uses_entry, live_over, uses_here, live_lines, live_front, is_live}
use Rattle.rewriting_laws.specs.Statements.{LiveIsExact}
use Rattle.rewriting_laws.proofs.NameLemmas.{at_rest, found}
use Rattle.rewriting_laws.proofs.LiveLaws.{drop_from, front_enough}
use Rattle.std.proofs.lemmas.Map.Keys.{any_passes_from_place}

at_end : {A : Type 0} (xs : List A) (k : ℕ) → drop k xs ≡ [] → k ≤ length xs → k ≡ length xs
at_end [] zero none within = refl
at_end [] (suc k) none within = absurd (omega arith)
at_end (x ∷ xs) zero none within = absurd (cc)
at_end (x ∷ xs) (suc k) none within = ap suc (at_end xs k none (omega arith))

pub any_found : {A : Type 0} (p : A → Bool) (xs : List A) → list_any p xs ≡ true → (k : ℕ) × (x : A) × (slice_get xs k ≡ Some x) × (p x ≡ true)
any_found p [] is = absurd (false≢true is)
any_found p (x ∷ xs) is = elim (or_cases (p x) (list_any p xs) is) [
  | inl here ↦ (0, x, refl, here)
  | inr there ↦ let rest = any_found p xs there in (suc rest.0, rest.1, rest.2, rest.3)
]

first_passes : {A : Type 0} (p : A → Bool) (xs : List A) (x : A) → slice_get xs (position_or_len p xs) ≡ Some x → p x ≡ true
first_passes p [] x is = absurd (cc)
first_passes p (y ∷ xs) x is = elim (cases_Bool (p y)) [
  | inl here ↦ (let h = rw here at is in let e : y ≡ x = cc in ap p (sym e) ∙ here)
  | inr other ↦ (let h = rw other at is in let e : 1 + position_or_len p xs ≡ suc (position_or_len p xs) = omega arith in first_passes p xs x (let g = rw e at h in g))
]

is_from : ℕ → BlockId → Bool
is_from from label = eqb label.0 from

-- the entry of a phi for a block
incoming_is : (from : ℕ) (phi : Instruction) (o : Operand) → incoming from phi ≡ Some o → IsEntry phi from o
incoming_is from phi o is = elim (cases_Bool (ltb (position_or_len (λ (label : BlockId). eqb label.0 from) phi.labels) (length phi.labels))) [
  | inl within ↦
      let place = position_or_len (λ (label : BlockId). eqb label.0 from) phi.labels in
      let label = get_some phi.labels place (ltb-true place (length phi.labels) within) in
      let operand : slice_get phi.operands place ≡ Some o = (let h = rw within at is in h) in
      record {
        place = place;
        label = ap (λ (l : Option BlockId). option_map_or (λ (l : BlockId). eqb l.0 from) l false) label.1 ∙ first_passes (λ (l : BlockId). eqb l.0 from) phi.labels label.0 label.1;
        operand_is = operand;
      }
  | inr past ↦ absurd (let h = rw past at is in let none : None ≡ Some o = h in cc)
]

entry_label : (from : ℕ) (l : Option BlockId) → option_map_or (λ (l : BlockId). eqb l.0 from) l false ≡ true → (label : BlockId) × (l ≡ Some label) × (eqb label.0 from ≡ true)
entry_label from None is = absurd (false≢true is)
entry_label from (Some label) is = (label, refl, is)

incoming_from : (from : ℕ) (phi : Instruction) (o : Operand)
    → ((j k : ℕ) → slice_get phi.labels j ≡ slice_get phi.labels k → slice_get phi.operands j ≡ slice_get phi.operands k)
    → IsEntry phi from o → incoming from phi ≡ Some o
incoming_from from phi o agree is =
    let label = entry_label from (slice_get phi.labels is.place) is.label in
    let first = found (λ (l : BlockId). eqb l.0 from) phi.labels is.place label.0 label.1 label.2 in
    let one : first.1.0 ≡ from = eqb-true first.1.0 from first.4 in
    let two : label.0.0 ≡ from = eqb-true label.0.0 from label.2 in
    let same : first.1 ≡ label.0 = (let e : first.1.0 ≡ label.0.0 = one ∙ sym two in ap (λ (n : ℕ). let l : BlockId = record { 0 = n } in l) e) in
    let labels : slice_get phi.labels first.0 ≡ slice_get phi.labels is.place = first.3 ∙ ap Some same ∙ sym label.1 in
    ap (λ (p : Option ℕ). option_map_or (λ (place : ℕ). slice_get phi.operands place) p None) first.2 ∙ agree first.0 is.place labels ∙ is.operand_is

module _ (func : Function) (table : List Operand) (v : ℕ) where
  among_contains : (xs : List ℕ) (x : ℕ) → among x xs ≡ true → Contains xs x
  among_contains xs x is =
      let at = any_found (λ (y : ℕ). eqb y x) xs is in
      contains_get xs at.0 x (at.2 ∙ ap Some (eqb-true at.1 x at.3))

  contains_among : (xs : List ℕ) (x : ℕ) → Contains xs x → among x xs ≡ true
  contains_among xs x has =
      let at = get_contained xs x has in
      any_passes_from_place (λ (y : ℕ). eqb y x) xs at.0 x at.1 (eq-eqb x x refl)

  value_is : (o : Operand) → is_value v o ≡ true → o ≡ named v
  value_is (Value id) is = ap named (eqb-true id.0 v is)
  value_is (Int word) is = absurd (false≢true is)
  value_is Null is = absurd (false≢true is)
  value_is (Fun g) is = absurd (false≢true is)

  pub use_is : (o : Operand) → is_use func table v o ≡ true → IsUse func table v o
  use_is (Value id) is = elim (or_cases (eqb id.0 v) (among id.0 (pointers func) && is_value v (base_at table id.0)) is) [
    | inl itself ↦ inl (ap named (eqb-true id.0 v itself))
    | inr derived ↦
        let parts = and_parts (among id.0 (pointers func)) (is_value v (base_at table id.0)) derived in
        inr (id.0, refl, among_contains (pointers func) id.0 parts.0, value_is (base_at table id.0) parts.1)
  ]
  use_is (Int word) is = absurd (false≢true is)
  use_is Null is = absurd (false≢true is)
  use_is (Fun g) is = absurd (false≢true is)

  pub use_from : (o : Operand) → IsUse func table v o → is_use func table v o ≡ true
  use_from o (inl itself) = rw itself (or_left (eqb v v) (among v (pointers func) && is_value v (base_at table v)) (eq-eqb v v refl))
  use_from o (inr derived) =
      let base : is_value v (base_at table derived.0) ≡ true = rw derived.3 (eq-eqb v v refl) in
      rw derived.1 (or_right (eqb derived.0 v) (among derived.0 (pointers func) && is_value v (base_at table derived.0))
      (and_from (among derived.0 (pointers func)) (is_value v (base_at table derived.0)) (contains_among (pointers func) derived.0 derived.2) base))

  -- the test says no more than the walks
  abbrev over : (ℕ → Bool) → ℕ → Bool
  over at_front b = list_any (live_over func table v at_front b) (succs func b)

  uses_sound : (b k : ℕ) (line : Line) → slice_get (lines_at func b) k ≡ Some line → uses_here func table v line ≡ true → Live func table v b k
  uses_sound b k line stands is = elim (or_cases (not (is_phi line.inst.op) && any_use func table v line.inst.operands) (any_held func table v line.inst) is) [
    | inl uses ↦
        let parts = and_parts (not (is_phi line.inst.op)) (any_use func table v line.inst.operands) uses in
        let at = any_found (is_use func table v) line.inst.operands parts.1 in
        used b k line at.1 stands (not-true (is_phi line.inst.op) parts.0) (contains_get line.inst.operands at.0 at.1 at.2) (use_is at.1 at.3)
    | inr holds ↦
        let at = any_found (λ (entry : Ty × Operand). is_use func table v entry.1) line.inst.bundle holds in
        held b k line at.1.1 stands (contains_get (map (λ (entry : Ty × Operand). entry.1) line.inst.bundle) at.0 at.1.1 (mapped line.inst.bundle at.0 at.1 at.2)) (use_is at.1.1 at.3)
  ]
    where
      mapped : (entries : List (Ty × Operand)) (k : ℕ) (e : Ty × Operand) → slice_get entries k ≡ Some e
          → slice_get (map (λ (entry : Ty × Operand). entry.1) entries) k ≡ Some e.1
      mapped [] k e is = absurd (cc)
      mapped (x ∷ entries) zero e is = let same : x ≡ e = cc in ap (λ (y : Ty × Operand). Some y.1) same
      mapped (x ∷ entries) (suc k) e is = mapped entries k e is

  lines_sound : (b : ℕ) (beyond : Bool) → (beyond ≡ true → Live func table v b (length (lines_at func b))) → (lines : List Line) (k : ℕ)
      → drop k (lines_at func b) ≡ lines → k ≤ length (lines_at func b) → live_lines func table v beyond lines ≡ true → Live func table v b k
  lines_sound b beyond walk [] k place within is =
      subst (λ (n : ℕ). Live func table v b n) (sym (at_end (lines_at func b) k place within)) (walk is)
  lines_sound b beyond walk (line ∷ lines) k place within is =
      let here = at_rest (lines_at func b) k line lines place in
      elim (or_cases (uses_here func table v line) (not (gives line v) && live_lines func table v beyond lines) is) [
        | inl uses ↦ uses_sound b k line here.0 uses
        | inr on ↦
            let parts = and_parts (not (gives line v)) (live_lines func table v beyond lines) on in
            let below = slice_get_within (lines_at func b) k line here.0 in
            later b k line here.0 (not-true (gives line v) parts.0) (lines_sound b beyond walk lines (suc k) here.1 (omega arith) parts.1)
      ]

  phi_entry : (b : ℕ) (line : Line) → option_map_or (is_use func table v) (incoming b line.inst) false ≡ true
      → (o : Operand) × IsEntry line.inst b o × IsUse func table v o
  phi_entry b line is = go (incoming b line.inst) refl is
    where
      go : (o : Option Operand) → incoming b line.inst ≡ o → option_map_or (is_use func table v) o false ≡ true
          → (o : Operand) × IsEntry line.inst b o × IsUse func table v o
      go None none is = absurd (false≢true is)
      go (Some o) some is = (o, incoming_is b line.inst o some, use_is o is)

  pub over_sound : (at_front : ℕ → Bool) → ((to : ℕ) → at_front to ≡ true → Live func table v to 0) → (b : ℕ) → over at_front b ≡ true
      → Live func table v b (length (lines_at func b))
  over_sound at_front walk b is =
      let edge = any_found (live_over func table v at_front b) (succs func b) is in
      let has = contains_get (succs func b) edge.0 edge.1 edge.2 in
      elim (or_cases (list_any (uses_entry func table v b) (lines_at func edge.1)) (at_front edge.1) edge.3) [
        | inl uses ↦
            let at = any_found (uses_entry func table v b) (lines_at func edge.1) uses in
            let parts = and_parts (is_phi at.1.inst.op) (option_map_or (is_use func table v) (incoming b at.1.inst) false) at.3 in
            let one = phi_entry b at.1 parts.1 in
            entry b (length (lines_at func b)) edge.1 at.0 at.1 one.0 refl has at.2 parts.0 one.1 one.2
        | inr on ↦ crosses b (length (lines_at func b)) edge.1 refl has (walk edge.1 on)
      ]

  pub front_sound : (bound b : ℕ) → live_front func table v bound b ≡ true → Live func table v b 0
  front_sound zero b is = absurd (false≢true is)
  front_sound (suc bound) b is =
      lines_sound b (over (live_front func table v bound) b) (over_sound (live_front func table v bound) (front_sound bound) b) (lines_at func b) 0 refl (omega arith) is

  abbrev beyond : ℕ → Bool
  beyond b = over (live_front func table v (length func.blocks)) b

  pub live_sound : (b k : ℕ) → is_live func table b k v ≡ true → Live func table v b k
  live_sound b k is =
      let parts = and_parts (leb k (length (lines_at func b))) (live_lines func table v (beyond b) (drop k (lines_at func b))) is in
      lines_sound b (beyond b) (over_sound (live_front func table v (length func.blocks)) (front_sound (length func.blocks)) b)
      (drop k (lines_at func b)) k refl (leb-true k (length (lines_at func b)) parts.0) parts.1

  -- and no less
  module _ (agree : PhisAgree func) where
    walk_within : (b k : ℕ) → Live func table v b k → k ≤ length (lines_at func b)
    walk_within _ _ (used b k line o stands phi has this) = let below = slice_get_within (lines_at func b) k line stands in omega arith
    walk_within _ _ (held b k line o stands has this) = let below = slice_get_within (lines_at func b) k line stands in omega arith
    walk_within _ _ (later b k line stands none walk) = let below = slice_get_within (lines_at func b) k line stands in omega arith
    walk_within _ _ (entry b k to place phi o last edge stands is_one one this) = omega (arith, last)
    walk_within _ _ (crosses b k to last edge walk) = omega (arith, last)

    any_has : {A : Type 0} (p : A → Bool) (xs : List A) (x : A) → Contains xs x → p x ≡ true → list_any p xs ≡ true
    any_has p xs x has passes = let at = get_contained xs x has in any_passes_from_place p xs at.0 x at.1 passes

    held_any : (entries : List (Ty × Operand)) (k : ℕ) (o : Operand) → slice_get (map (λ (entry : Ty × Operand). entry.1) entries) k ≡ Some o
        → is_use func table v o ≡ true → list_any (λ (entry : Ty × Operand). is_use func table v entry.1) entries ≡ true
    held_any [] k o is passes = absurd (cc)
    held_any (e ∷ entries) zero o is passes =
        let same : e.1 ≡ o = cc in
        or_left (is_use func table v e.1) (list_any (λ (entry : Ty × Operand). is_use func table v entry.1) entries) (ap (is_use func table v) same ∙ passes)
    held_any (e ∷ entries) (suc k) o is passes =
        or_right (is_use func table v e.1) (list_any (λ (entry : Ty × Operand). is_use func table v entry.1) entries) (held_any entries k o is passes)

    abbrev Tested : ℕ → ℕ → Type 0
    Tested b k = live_lines func table v (beyond b) (drop k (lines_at func b)) ≡ true

    tested : (b k : ℕ) → Live func table v b k → Tested b k
    tested _ _ (used b k line o stands phi has this) =
        ap (live_lines func table v (beyond b)) (drop_from (lines_at func b) k line stands)
        ∙ or_left (uses_here func table v line) (not (gives line v) && live_lines func table v (beyond b) (drop (suc k) (lines_at func b)))
        (or_left (not (is_phi line.inst.op) && any_use func table v line.inst.operands) (any_held func table v line.inst)
        (and_from (not (is_phi line.inst.op)) (any_use func table v line.inst.operands) (not_from_false (is_phi line.inst.op) phi)
        (any_has (is_use func table v) line.inst.operands o has (use_from o this))))
    tested _ _ (held b k line o stands has this) =
        let at = get_contained (map (λ (entry : Ty × Operand). entry.1) line.inst.bundle) o has in
        ap (live_lines func table v (beyond b)) (drop_from (lines_at func b) k line stands)
        ∙ or_left (uses_here func table v line) (not (gives line v) && live_lines func table v (beyond b) (drop (suc k) (lines_at func b)))
        (or_right (not (is_phi line.inst.op) && any_use func table v line.inst.operands) (any_held func table v line.inst)
        (held_any line.inst.bundle at.0 o at.1 (use_from o this)))
    tested _ _ (later b k line stands none walk) =
        ap (live_lines func table v (beyond b)) (drop_from (lines_at func b) k line stands)
        ∙ or_right (uses_here func table v line) (not (gives line v) && live_lines func table v (beyond b) (drop (suc k) (lines_at func b)))
        (and_from (not (gives line v)) (live_lines func table v (beyond b) (drop (suc k) (lines_at func b)))
        (not_from_false (gives line v) none) (tested b (suc k) walk))
    tested _ _ (entry b k to place phi o last edge stands is_one one this) =
        let here : uses_entry func table v b phi ≡ true =
        and_from (is_phi phi.inst.op) (option_map_or (is_use func table v) (incoming b phi.inst) false) is_one
        (ap (λ (o : Option Operand). option_map_or (is_use func table v) o false) (incoming_from b phi.inst o (agree to place phi stands is_one) one) ∙ use_from o this) in
        ap (λ (n : ℕ). live_lines func table v (beyond b) (drop n (lines_at func b))) last
        ∙ ap (live_lines func table v (beyond b)) (drop_whole (lines_at func b))
        ∙ any_has (live_over func table v (live_front func table v (length func.blocks)) b) (succs func b) to edge
        (or_left (list_any (uses_entry func table v b) (lines_at func to)) (live_front func table v (length func.blocks) to)
        (any_passes_from_place (uses_entry func table v b) (lines_at func to) place phi stands here))
    tested _ _ (crosses b k to last edge walk) =
        ap (λ (n : ℕ). live_lines func table v (beyond b) (drop n (lines_at func b))) last
        ∙ ap (live_lines func table v (beyond b)) (drop_whole (lines_at func b))
        ∙ any_has (live_over func table v (live_front func table v (length func.blocks)) b) (succs func b) to edge
        (or_right (list_any (uses_entry func table v b) (lines_at func to)) (live_front func table v (length func.blocks) to)
        (front_enough func table v (suc (length func.blocks)) to (tested to 0 walk)))

    pub live_complete : (b k : ℕ) → Live func table v b k → is_live func table b k v ≡ true
    live_complete b k walk =
        and_from (leb k (length (lines_at func b))) (live_lines func table v (beyond b) (drop k (lines_at func b)))
        (le-leb k (length (lines_at func b)) (walk_within b k walk)) (tested b k walk)

pub live_is_exact : LiveIsExact
live_is_exact func table agree b k v = record { sound = live_sound func table v b k; complete = live_complete func table v agree b k }
