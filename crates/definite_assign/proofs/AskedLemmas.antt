-- What one operand and one line ask for.
use Rattle.std.proofs.Common.{◌≡◌, ℕ, zero, suc, ◌<◌, ◌≤◌, ◌+◌, cond, eqb, ltb, ◌&&◌, Bool, true, false, List, [], ◌∷◌, ◌++◌, length, get_or, take, refl, ap, sym, arith, Option, Some, None, slice_get, inl, inr, ◌⊎◌, ◌∙◌, append_assoc, append-nil}
use Rattle.std.specs.List.{Contains, flat_map}
use Rattle.std.proofs.lemmas.List.{length-take-le, take_more}
use Rattle.std.proofs.lemmas.List.Elements.{Contains-append_cases, Contains-append_left, Contains-append_right}
use Rattle.std.proofs.lemmas.Bool.{eqb-true, ltb-true, eq-eqb, lt-ltb, and_parts, and_from, cases_lt, both_ways}
use Rattle.sp_ids.specs.declared.ids.BlockId.{BlockId}
use Rattle.ir_ast.specs.declared.ops.Operand.{Operand}
use Rattle.ir_ast.specs.declared.ops.Operand.TheVariants.{Value, Int, Null, Fun}
use Rattle.ir_ast.specs.declared.ops.Op.{Op}
use Rattle.ir_ast.specs.declared.ops.Op.TheVariants.{Phi}
use Rattle.ir_ast.specs.Insts.{Instruction}
use Rattle.ir_ast.specs.Funcs.{Function, instructions_of}
use Rattle.ir_ast.specs.Operands.{operands_of, value_in}
use Rattle.ir_ast.specs.Faults.PhiEdges.{is_phi}
use Rattle.definite_assign.specs.declared.homes.Home.{Home}
use Rattle.definite_assign.specs.declared.uses.FarUse.{FarUse}
use Rattle.definite_assign.specs.declared.uses.Spot.{Spot}
use Rattle.definite_assign.specs.Homes.{IsHome, AreHomes}
use Rattle.definite_assign.specs.Asked.{home_of, far_use, asked, end_of, entry_asked, entries_asked, line_asked, asked_by}
use Rattle.definite_assign.proofs.HomeLemmas.{home_owns}

-- the definition stands before the spot in the spot's block
abbrev IsNear : Home → Spot → Bool
IsNear home spot = eqb home.block.0 spot.block.0 && ltb home.place spot.before

abbrev pub far_of : Home → Spot → ℕ → FarUse
far_of home spot place = record { home = home.block; block = spot.block; place = place }

-- the far use that an operand asks for
pub record IsAskedBy (func : Function) (spot : Spot) (place : ℕ) (operand : Operand) (far : FarUse) : Type 0 where
  pub value : ℕ
  pub in_operand : value_in operand ≡ Some value
  pub home : Home
  pub own : IsHome func value home
  pub is : far ≡ far_of home spot place
  pub apart : home.block.0 ≡ spot.block.0 → spot.before ≤ home.place

not_before : (home : Home) (spot : Spot) → IsNear home spot ≡ false → home.block.0 ≡ spot.block.0 → (home.place < spot.before) ⊎ (spot.before ≤ home.place)
    → spot.before ≤ home.place
not_before home spot far same (inr past) = past
not_before home spot far same (inl before) =
    absurd (both_ways (IsNear home spot) far (and_from (eqb home.block.0 spot.block.0) (ltb home.place spot.before)
    (eq-eqb home.block.0 spot.block.0 same) (lt-ltb home.place spot.before before)))

from_far : (func : Function) (spot : Spot) (place value : ℕ) (operand : Operand) (home : Home) (far : FarUse) → value_in operand ≡ Some value
    → IsHome func value home → (near : Bool) → IsNear home spot ≡ near → Contains (cond near [] (far_of home spot place ∷ [])) far
    → IsAskedBy func spot place operand far
from_far func spot place value operand home far holds own true is in' = absurd (omega (arith, in'.1))
from_far func spot place value operand home far holds own false is (zero, below, same) = record {
  value = value;
  in_operand = holds;
  home = home;
  own = own;
  is = sym same;
  apart = λ here. not_before home spot is here (cases_lt home.place spot.before);
}
from_far func spot place value operand home far holds own false is (suc k, below, same) = absurd (omega (arith, below))

from_home : (func : Function) (homes : List Home) (spot : Spot) (place value : ℕ) (operand : Operand) (far : FarUse)
    → AreHomes func (length (instructions_of func.blocks)) homes → value_in operand ≡ Some value → (found : Option Home)
    → home_of homes (length func.args) value ≡ found → Contains (far_use found spot place) far → IsAskedBy func spot place operand far
from_home func homes spot place value operand far are holds None is in' = absurd (omega (arith, in'.1))
from_home func homes spot place value operand far are holds (Some home) is in' =
    from_far func spot place value operand home far holds (home_owns func homes value home are is) (IsNear home spot) refl in'

pub asked_from : (func : Function) (homes : List Home) (spot : Spot) (place : ℕ) (far : FarUse)
    → AreHomes func (length (instructions_of func.blocks)) homes → (operand : Operand)
    → Contains (asked homes (length func.args) spot place operand) far → IsAskedBy func spot place operand far
asked_from func homes spot place far are (Value value) in' =
    from_home func homes spot place value.0 (Value value) far are refl (home_of homes (length func.args) value.0) refl in'
asked_from func homes spot place far are (Int number) in' = absurd (omega (arith, in'.1))
asked_from func homes spot place far are Null in' = absurd (omega (arith, in'.1))
asked_from func homes spot place far are (Fun named) in' = absurd (omega (arith, in'.1))

asked_is : (homes : List Home) (arguments : ℕ) (spot : Spot) (place value : ℕ) (operand : Operand) → value_in operand ≡ Some value
    → asked homes arguments spot place operand ≡ far_use (home_of homes arguments value) spot place
asked_is homes arguments spot place value (Value own) holds =
    let same : own.0 ≡ value = cc in
    ap (λ v. far_use (home_of homes arguments v) spot place) same
asked_is homes arguments spot place value (Int number) holds = absurd (let never : None ≡ Some value = holds in cc)
asked_is homes arguments spot place value Null holds = absurd (let never : None ≡ Some value = holds in cc)
asked_is homes arguments spot place value (Fun named) holds = absurd (let never : None ≡ Some value = holds in cc)

-- the definition stands before the spot in its block
pub record StandsBefore (home : Home) (spot : Spot) : Type 0 where
  pub block : home.block.0 ≡ spot.block.0
  pub place : home.place < spot.before

near_or_far : (home : Home) (spot : Spot) (place : ℕ) (near : Bool) → IsNear home spot ≡ near
    → StandsBefore home spot ⊎ Contains (cond near [] (far_of home spot place ∷ [])) (far_of home spot place)
near_or_far home spot place true is =
    let parts = and_parts (eqb home.block.0 spot.block.0) (ltb home.place spot.before) is in
    inl (record { block = eqb-true home.block.0 spot.block.0 parts.0; place = ltb-true home.place spot.before parts.1 })
near_or_far home spot place false is = inr (0, omega arith, refl)

pub before_or_asked : (homes : List Home) (arguments : ℕ) (spot : Spot) (place value : ℕ) (operand : Operand) (home : Home)
    → value_in operand ≡ Some value → home_of homes arguments value ≡ Some home
    → StandsBefore home spot ⊎ Contains (asked homes arguments spot place operand) (far_of home spot place)
before_or_asked homes arguments spot place value operand home holds found =
    let list : asked homes arguments spot place operand ≡ far_use (Some home) spot place =
    asked_is homes arguments spot place value operand holds ∙ ap (λ (o : Option Home). far_use o spot place) found in
    elim (near_or_far home spot place (IsNear home spot) refl) [ inl near ↦ inl near | inr in' ↦ inr (rw list in') ]

-- the far use that an entry of a phi asks for
pub record IsEntryAsked (homes : List Home) (arguments place : ℕ) (labels : List BlockId) (operands : List Operand) (far : FarUse) : Type 0 where
  pub entry : ℕ
  pub label : BlockId
  pub operand : Operand
  pub label_at : slice_get labels entry ≡ Some label
  pub operand_at : slice_get operands entry ≡ Some operand
  pub asks : Contains (asked homes arguments (end_of label) place operand) far

pub entry_from : (homes : List Home) (arguments place : ℕ) (labels : List BlockId) (operands : List Operand) (far : FarUse)
    → Contains (entries_asked homes arguments place labels operands) far → IsEntryAsked homes arguments place labels operands far
entry_from homes arguments place [] operands far in' = absurd (omega (arith, in'.1))
entry_from homes arguments place (label ∷ labels) [] far in' = absurd (omega (arith, in'.1))
entry_from homes arguments place (label ∷ labels) (operand ∷ operands) far in' =
    elim (Contains-append_cases (asked homes arguments (end_of label) place operand) (entries_asked homes arguments place labels operands) far in') [
      | inl here ↦ record { entry = 0; label = label; operand = operand; label_at = refl; operand_at = refl; asks = here }
      | inr there ↦
          let rest = entry_from homes arguments place labels operands far there in
          record { entry = suc rest.entry; label = rest.label; operand = rest.operand; label_at = rest.label_at; operand_at = rest.operand_at; asks = rest.asks }
    ]

pub entry_asks : (homes : List Home) (arguments place : ℕ) (labels : List BlockId) (operands : List Operand) (far : FarUse) (entry : ℕ) (label : BlockId)
    (operand : Operand) → slice_get labels entry ≡ Some label → slice_get operands entry ≡ Some operand
    → Contains (asked homes arguments (end_of label) place operand) far → Contains (entries_asked homes arguments place labels operands) far
entry_asks homes arguments place [] operands far entry label operand label_at operand_at asks = absurd (let never : None ≡ Some label = label_at in cc)
entry_asks homes arguments place (first ∷ labels) [] far entry label operand label_at operand_at asks = absurd (let never : None ≡ Some operand = operand_at in cc)
entry_asks homes arguments place (first ∷ labels) (one ∷ operands) far zero label operand label_at operand_at asks =
    let same : label ≡ first = cc in
    let own : operand ≡ one = cc in
    Contains-append_left (asked homes arguments (end_of first) place one) (entries_asked homes arguments place labels operands) far
    (rw (own, same) at asks)
entry_asks homes arguments place (first ∷ labels) (one ∷ operands) far (suc entry) label operand label_at operand_at asks =
    Contains-append_right (asked homes arguments (end_of first) place one) (entries_asked homes arguments place labels operands) far
    (entry_asks homes arguments place labels operands far entry label operand label_at operand_at asks)

pub entries_none : (homes : List Home) (arguments place : ℕ) (labels : List BlockId) → entries_asked homes arguments place labels [] ≡ []
entries_none homes arguments place [] = refl
entries_none homes arguments place (label ∷ labels) = refl

pub entries_push : (homes : List Home) (arguments place : ℕ) (labels : List BlockId) (operands : List Operand) (operand : Operand)
    → entries_asked homes arguments place labels (operands ++ operand ∷ [])
    ≡ entries_asked homes arguments place labels operands ++ entry_asked homes arguments place (slice_get labels (length operands)) operand
entries_push homes arguments place [] [] operand = refl
entries_push homes arguments place [] (one ∷ operands) operand = refl
entries_push homes arguments place (label ∷ labels) [] operand =
    ap (λ xs. asked homes arguments (end_of label) place operand ++ xs) (entries_none homes arguments place labels)
    ∙ append-nil (asked homes arguments (end_of label) place operand)
entries_push homes arguments place (label ∷ labels) (one ∷ operands) operand =
    ap (λ xs. asked homes arguments (end_of label) place one ++ xs) (entries_push homes arguments place labels operands operand)
    ∙ sym (append_assoc (asked homes arguments (end_of label) place one) (entries_asked homes arguments place labels operands)
    (entry_asked homes arguments place (slice_get labels (length operands)) operand))

-- one more entry, where a list of uses has those of the entries before it
pub entries_more : (homes : List Home) (arguments place index : ℕ) (labels : List BlockId) (operands : List Operand) (none : Operand)
    (label : Option BlockId) (old uses new : List FarUse) → index < length operands → label ≡ slice_get labels index
    → uses ≡ old ++ entries_asked homes arguments place labels (take index operands)
    → new ≡ uses ++ entry_asked homes arguments place label (get_or operands index none)
    → new ≡ old ++ entries_asked homes arguments place labels (take (index + 1) operands)
entries_more homes arguments place index labels operands none label old uses new below found before after =
    let front = entries_asked homes arguments place labels (take index operands) in
    let operand = get_or operands index none in
    let one = entry_asked homes arguments place label operand in
    let long = length-take-le index operands (omega arith) in
    let last : entry_asked homes arguments place (slice_get labels (length (take index operands))) operand ≡ one =
    ap (λ n. entry_asked homes arguments place (slice_get labels n) operand) long ∙ ap (λ (l : Option BlockId). entry_asked homes arguments place l operand) (sym found) in
    let pushed : entries_asked homes arguments place labels (take (index + 1) operands) ≡ front ++ one =
    ap (λ (xs : List Operand). entries_asked homes arguments place labels xs) (take_more operands index none below)
    ∙ entries_push homes arguments place labels (take index operands) operand
    ∙ ap (λ (xs : List FarUse). front ++ xs) last in
    after ∙ ap (λ (xs : List FarUse). xs ++ one) before ∙ append_assoc old front one ∙ ap (λ (xs : List FarUse). old ++ xs) (sym pushed)

line_is : (homes : List Home) (arguments : ℕ) (block : BlockId) (place : ℕ) (inst : Instruction) (op : Op) → is_phi op ≡ false
    → line_asked homes arguments block place op inst ≡ flat_map (asked homes arguments (record { block = block; before = place }) place) (operands_of inst)
line_is homes arguments block place inst Phi other = absurd (cc)
line_is homes arguments block place inst _ other = refl

entries_are : (homes : List Home) (arguments : ℕ) (block : BlockId) (place : ℕ) (inst : Instruction) (op : Op) → is_phi op ≡ true
    → line_asked homes arguments block place op inst ≡ entries_asked homes arguments place inst.labels inst.operands
entries_are homes arguments block place inst Phi same = refl
entries_are homes arguments block place inst _ same = absurd (cc)

pub asked_by_line : (homes : List Home) (arguments : ℕ) (block : BlockId) (place : ℕ) (inst : Instruction) → is_phi inst.op ≡ false
    → asked_by homes arguments block place inst ≡ flat_map (asked homes arguments (record { block = block; before = place }) place) (operands_of inst)
asked_by_line homes arguments block place inst other = line_is homes arguments block place inst inst.op other

pub asked_by_phi : (homes : List Home) (arguments : ℕ) (block : BlockId) (place : ℕ) (inst : Instruction) → is_phi inst.op ≡ true
    → asked_by homes arguments block place inst ≡ entries_asked homes arguments place inst.labels inst.operands
asked_by_phi homes arguments block place inst same = entries_are homes arguments block place inst inst.op same
