-- Where each line of a block uses nothing but values before it, each use is definite.
use Rattle.std.proofs.Common.{◌≡◌, ℕ, zero, suc, ◌<◌, ◌≤◌, ◌+◌, cond, Bool, true, false, List, [], ◌∷◌, ◌++◌, length, get_or, take, map, refl, ap, sym, subst, arith, Some, slice_get, inl, inr, ◌⊎◌, ◌∙◌}
use Rattle.std.specs.List.{Contains, filter}
use Rattle.std.specs.Prelude.{is_some, not}
use Rattle.std.proofs.lemmas.List.{append-nil, length-take-le}
use Rattle.std.proofs.lemmas.List.Elements.{All-contains}
use Rattle.std.proofs.lemmas.Bool.{cases_Bool, cases_lt, ltb-true}
use Rattle.std.proofs.lemmas.Option.{slice_get_within, get_or_from_slice_get, same_Some}
use Rattle.std.proofs.lemmas.List.Filters.{length-filter_more, length-filter_both}
use Rattle.list_laws.proofs.Places.{get_some}
use Rattle.ir_ast.specs.declared.ops.Operand.{Operand}
use Rattle.ir_ast.specs.declared.ops.Operand.TheVariants.{Value, Int, Null, Fun}
use Rattle.ir_ast.specs.declared.types.Ty.{Ty}
use Rattle.ir_ast.specs.Insts.{Instruction}
use Rattle.ir_ast.specs.Blocks.{BasicBlock}
use Rattle.ir_ast.specs.Funcs.{Function, instructions_of}
use Rattle.ir_ast.specs.Operands.{operands_of, values_used, value_in}
use Rattle.ir_ast.specs.Faults.GroupShape.{number_at}
use Rattle.ir_cfg.specs.DefiniteUses.{Stands, Defines, by_line, by_entry, in_arguments, UsesAreDefinite, text_place}
use Rattle.definite_assign.specs.Straight.{is_below, IsKnown, values_before, AreKnown}
use Rattle.definite_assign.proofs.ListLemmas.{in_filtered}
use Rattle.definite_assign.proofs.TextLemmas.{stands_in_text}
use Rattle.definite_assign.proofs.HomeLemmas.{count_more}
use Rattle.definite_assign.proofs.UseLemmas.{definite_in_block, defines_in}

-- a value that is defined in the first block before a place
record IsBefore (func : Function) (value place : ℕ) : Type 0 where
  pub at : ℕ
  pub before : at < place
  pub defines : Defines func value 0 at

text_of : (func : Function) (block : BasicBlock) → func.blocks ≡ block ∷ [] → instructions_of func.blocks ≡ block.insts
text_of func block only = ap (λ (bs : List BasicBlock). instructions_of bs) only ∙ append-nil block.insts

stands_at : (func : Function) (block : BasicBlock) (place : ℕ) (inst : Instruction) → func.blocks ≡ block ∷ [] → slice_get block.insts place ≡ Some inst
    → Stands func 0 place inst
stands_at func block place inst only at = record { block = block; in_function = ap (λ (bs : List BasicBlock). slice_get bs 0) only; in_block = at }

arranged : (a b c : ℕ) → a + (b + c) ≡ a + b + c
arranged a b c = omega arith

from_nought : (place : ℕ) → 0 + place ≡ place
from_nought place = omega arith

grown : (func : Function) (place at n : ℕ) → at ≡ place
    → length (filter (λ inst. is_some inst.result) (take (at + 1) (instructions_of func.blocks)))
    ≡ length (filter (λ inst. is_some inst.result) (take at (instructions_of func.blocks))) + n
    → number_at func (place + 1) ≡ number_at func place + n
grown func place at n same more =
    subst (λ (p : ℕ). number_at func (p + 1) ≡ number_at func p + n) same (ap (λ (m : ℕ). length func.args + m) more ∙ arranged (length func.args) _ n)

defined_here : (func : Function) (value place : ℕ) (inst : Instruction) → Stands func 0 place inst → length func.args ≤ value
    → (value < number_at func place → IsBefore func value place)
    → (is_some inst.result ≡ true) ⊎ (is_some inst.result ≡ false) → value < number_at func (place + 1) → IsBefore func value (place + 1)
defined_here func value place inst stands past earlier (inl some) below =
    let more = grown func place (text_place func 0 place) 1 (from_nought place) (count_more func 0 place inst true stands some) in
    elim (cases_lt value (number_at func place)) [
      | inl before ↦ let found = earlier before in record { at = found.at; before = omega (arith, found.before); defines = found.defines }
      | inr here ↦
          let is : number_at func place ≡ value = omega (arith, more, here, below) in
          record {
            at = place;
            before = omega arith;
            defines = record {
              inst = inst;
              stands = stands;
              named = some;
              numbered = subst (λ (p : ℕ). number_at func p ≡ value) (sym (from_nought place)) is;
            };
          }
    ]
defined_here func value place inst stands past earlier (inr none) below =
    let more = grown func place (text_place func 0 place) 0 (from_nought place) (count_more func 0 place inst false stands none) in
    let found = earlier (omega (arith, more, below)) in
    record { at = found.at; before = omega (arith, found.before); defines = found.defines }

defined : (func : Function) (block : BasicBlock) (value place : ℕ) → func.blocks ≡ block ∷ [] → length func.args ≤ value → place ≤ length block.insts
    → value < number_at func place → IsBefore func value place
defined func block value zero only past within below = absurd (omega (arith, past, below))
defined func block value (suc place) only past within below =
    let one = get_some block.insts place (omega (arith, within)) in
    let stands = stands_at func block place one.0 only one.1 in
    let next : suc place ≡ place + 1 = omega arith in
    subst (λ (p : ℕ). IsBefore func value p) (sym next)
    (defined_here func value place one.0 stands past (λ before. defined func block value place only past (omega (arith, within)) before)
    (cases_Bool (is_some one.0.result)) (subst (λ (p : ℕ). value < number_at func p) next below))

below_of : (limit value : ℕ) (operand : Operand) → is_below limit operand ≡ true → value_in operand ≡ Some value → value < limit
below_of limit value (Value one) below is =
    let same : one.0 ≡ value = same_Some one.0 value is in
    omega (arith, same, ltb-true one.0 limit below)
below_of limit value (Int n) below is = absurd (let never : ◌≡◌ {A = _} (value_in (Int n)) (Some value) = is in cc)
below_of limit value Null below is = absurd (let never : ◌≡◌ {A = _} (value_in Null) (Some value) = is in cc)
below_of limit value (Fun f) below is = absurd (let never : ◌≡◌ {A = _} (value_in (Fun f)) (Some value) = is in cc)

no_bundle : (bundle : List (Ty × Operand)) → length bundle ≡ 0 → map (λ (entry : Ty × Operand). entry.1) bundle ≡ []
no_bundle [] none = refl
no_bundle (entry ∷ bundle) none = absurd (omega (arith, none))

operands_known : (inst : Instruction) → length inst.bundle ≡ 0 → operands_of inst ≡ inst.operands
operands_known inst none = ap (λ (more : List Operand). inst.operands ++ more) (no_bundle inst.bundle none) ∙ append-nil inst.operands

used_below : (limit value : ℕ) (inst : Instruction) → IsKnown limit inst → Contains (values_used inst) value → value < limit
used_below limit value inst known used =
    let from = in_filtered value_in (operands_of inst) value used in
    below_of limit value from.source
    (All-contains (λ (operand : Operand). is_below limit operand ≡ true) inst.operands from.source known.below
    (subst (λ (os : List Operand). Contains os from.source) (operands_known inst known.unbundled) from.among)) from.gives

abbrev Lines : Function → List Instruction
Lines func = instructions_of func.blocks

known_at : (func : Function) (number place : ℕ) (inst : Instruction) → AreKnown (length func.args) (Lines func) (length (Lines func))
    → Stands func number place inst → IsKnown (number_at func (text_place func number place)) inst
known_at func number place inst all stands =
    let at = stands_in_text func number place inst stands in
    all (text_place func number place) inst (slice_get_within (Lines func) (text_place func number place) inst at) at

first_block : (func : Function) (block : BasicBlock) (number place : ℕ) (inst : Instruction) → func.blocks ≡ block ∷ [] → Stands func number place inst
    → number ≡ 0
first_block func block number place inst only stands =
    let within = slice_get_within func.blocks number stands.block stands.in_function in
    omega (arith, within, ap length only)

pub straight : (func : Function) (block : BasicBlock) → func.blocks ≡ block ∷ [] → AreKnown (length func.args) (Lines func) (length (Lines func))
    → UsesAreDefinite func
straight func block only all _ _ _ _ (by_line number place value inst stands plain used) =
    let known = known_at func number place inst all stands in
    let below = used_below (number_at func (text_place func number place)) value inst known used in
    let first = first_block func block number place inst only stands in
    let start : length (instructions_of (take number func.blocks)) ≡ length (instructions_of (take 0 func.blocks)) =
    ap (λ n. length (instructions_of (take n func.blocks))) first in
    let here : text_place func number place ≡ place = omega (arith, start) in
    let within = slice_get_within (Lines func) (text_place func number place) inst (stands_in_text func number place inst stands) in
    let long = ap length (text_of func block only) in
    elim (cases_lt value (length func.args)) [
      | inl argument ↦ (λ path leads. in_arguments argument)
      | inr past ↦
          let found = defined func block value place only past (omega (arith, within, long, here)) (subst (λ (p : ℕ). value < number_at func p) here below) in
          definite_in_block func value number place found.at (defines_in func value 0 number found.at (sym first) found.defines) found.before
    ]
straight func block only all _ _ _ _ (by_entry number place entry value phi operand label from stands is label_at operand_at holds from_at) =
    let known = known_at func number place phi all stands in
    absurd (let bad : false ≡ true = sym known.plain ∙ is in cc)

one_block : (blocks : List BasicBlock) → length blocks ≡ 1 → (block : BasicBlock) → slice_get blocks 0 ≡ Some block → blocks ≡ block ∷ []
one_block [] one block at = absurd (omega (arith, one))
one_block (first ∷ []) one block at = ap (λ (b : BasicBlock). b ∷ []) (same_Some first block at)
one_block (first ∷ second ∷ blocks) one block at = absurd (omega (arith, one))

-- what the test of a function's only block says
pub straight_of : (func : Function) (block : BasicBlock) (insts : List Instruction) (arguments : ℕ) → length func.blocks ≡ 1
    → slice_get func.blocks 0 ≡ Some block → insts ≡ block.insts → arguments ≡ length func.args → AreKnown arguments insts (length insts)
    → UsesAreDefinite func
straight_of func block insts arguments one at own count all =
    let only = one_block func.blocks one block at in
    let text : insts ≡ Lines func = own ∙ sym (text_of func block only) in
    straight func block only
    (subst (λ (n : ℕ). AreKnown n (Lines func) (length (Lines func))) count
    (subst (λ (l : List Instruction). AreKnown arguments l (length l)) text all))

-- ---- a line at a time

pub known_none : (arguments : ℕ) (insts : List Instruction) → AreKnown arguments insts 0
known_none arguments insts place inst below at = absurd (omega arith)

pub known_more : (arguments count known : ℕ) (insts : List Instruction) (inst : Instruction) → slice_get insts count ≡ Some inst
    → known ≡ values_before arguments insts count → IsKnown known inst → AreKnown arguments insts count → AreKnown arguments insts (count + 1)
known_more arguments count known insts inst here is line lines place other below at =
    elim (cases_lt place count) [
      | inl before ↦ lines place other before at
      | inr last ↦
          let same : place ≡ count = omega (arith, below, last) in
          let both : Some inst ≡ Some other = sym here ∙ ap (λ (p : ℕ). slice_get insts p) (sym same) ∙ at in
          subst (λ (p : ℕ). IsKnown (values_before arguments insts p) other) (sym same)
          (subst (λ (n : ℕ). IsKnown n other) is (subst (λ (i : Instruction). IsKnown known i) (same_Some inst other both) line))
    ]

pub values_more : (arguments count : ℕ) (insts : List Instruction) (inst : Instruction) → slice_get insts count ≡ Some inst
    → values_before arguments insts (count + 1) ≡ values_before arguments insts count + cond (is_some inst.result) 1 0
values_more arguments count insts inst at =
    let named : Instruction → Bool = λ i. is_some i.result in
    let within = slice_get_within insts count inst at in
    let own : ◌≡◌ {A = ℕ} (cond (named (get_or insts count inst)) 1 0) (cond (named inst) 1 0) =
    ap (λ (i : Instruction). cond (named i) 1 0) (get_or_from_slice_get insts count inst inst at) in
    let more = length-filter_more named insts count inst within in
    omega (arith, more, own)

pub few_values : (arguments count : ℕ) (insts : List Instruction) → count ≤ length insts
    → values_before arguments insts count ≤ arguments + length insts
few_values arguments count insts within =
    let named : Instruction → Bool = λ i. is_some i.result in
    omega (arith, length-filter_both named (λ i. not (named i)) (λ i. refl) (take count insts), length-take-le count insts within, within)

pub one_or_none : (b : Bool) → cond b 1 0 ≤ 1
one_or_none true = omega arith
one_or_none false = omega arith
