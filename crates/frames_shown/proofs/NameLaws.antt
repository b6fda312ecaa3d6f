-- The name of the function that has an instruction at a code address.
use Rattle.std.proofs.Common.{◌≡◌, ℕ, zero, suc, ◌+◌, ◌-◌, ◌*◌, ◌/◌, ◌%◌, ◌<◌, ◌≤◌, ◌==◌, ◌&&◌, true, false, List, [], ◌∷◌, length, ap, ◌∙◌, subst, arith, Some, if◌then◌else◌, nat_lt, nat_le}
use Rattle.std.specs.Prelude.{slice_get}
use Rattle.std.proofs.lemmas.Bool.{and_from, and_right, eq-eqb, le-leb, le-ltb, lt-ltb}
use Rattle.std.proofs.lemmas.Option.{none-some, same_Some}
use Rattle.ir_ast.specs.Funcs.{Function, instructions_of}
use Rattle.ir_ast.specs.Modules.{ModuleContent}
use Rattle.frame_forms.specs.CodeAddresses.{first_start, next_start}
use Rattle.frame_forms.specs.ModuleLayouts.{address_in, laid_from}
use Rattle.machine_meaning.specs.Code.{code_address, has_instruction, name_in, place_before}

has_here : (start : ℕ) (func : Function) (place : ℕ) → place < length (instructions_of func.blocks) → has_instruction start func (start + 4 * place) ≡ true
has_here start func place within =
    let count = length (instructions_of func.blocks) in
    let back : start + 4 * place - start ≡ 4 * place = omega arith in
    let whole : (start + 4 * place - start) % 4 ≡ 0 = omega arith in
    let inside : (start + 4 * place - start) / 4 < length (instructions_of func.blocks) = omega arith in
    and_from (nat_le start (start + 4 * place)) (((start + 4 * place - start) % 4 == 0) && nat_lt ((start + 4 * place - start) / 4) count) (le-leb start (start + 4 * place) (omega arith))
    (and_from ((start + 4 * place - start) % 4 == 0) (nat_lt ((start + 4 * place - start) / 4) count) (eq-eqb ((start + 4 * place - start) % 4) 0 whole)
    (lt-ltb ((start + 4 * place - start) / 4) count inside))

has_none : (start : ℕ) (func : Function) (address : ℕ) → start + 4 * length (instructions_of func.blocks) ≤ address → has_instruction start func address ≡ false
has_none start func address behind =
    let count = length (instructions_of func.blocks) in
    let past : length (instructions_of func.blocks) ≤ (address - start) / 4 = omega arith in
    and_right (nat_le start address) (((address - start) % 4 == 0) && nat_lt ((address - start) / 4) count)
    (and_right ((address - start) % 4 == 0) (nat_lt ((address - start) / 4) count) (le-ltb ((address - start) / 4) count past))

record IsNamed (start : ℕ) (funcs : List Function) (number : ℕ) (func : Function) : Type 0 where
  pub later : start ≤ address_in (laid_from start funcs) number
  pub named : (place : ℕ) → place < length (instructions_of func.blocks) → name_in start funcs (address_in (laid_from start funcs) number + 4 * place) ≡ Some func.name

named_in : (start : ℕ) (funcs : List Function) (number : ℕ) (func : Function) → slice_get funcs number ≡ Some func → IsNamed start funcs number func
named_in start [] number func found = absurd (none-some func found)
named_in start (first ∷ funcs) zero func found =
    let here : IsNamed start (first ∷ funcs) 0 first = record {
      later = omega arith;
      named = λ place within.
          ap (λ b. if b then Some first.name else name_in (next_start start first) funcs (start + 4 * place)) (has_here start first place within);
    } in
    subst (IsNamed start (first ∷ funcs) 0) (same_Some first func found) here
named_in start (first ∷ funcs) (suc number) func found =
    let more = named_in (next_start start first) funcs number func found in
    let next : start + 4 * length (instructions_of first.blocks) ≤ next_start start first = omega arith in
    let later : next_start start first ≤ address_in (laid_from (next_start start first) funcs) number = more.later in
    record {
      later = omega arith;
      named = λ place within.
          let address = address_in (laid_from (next_start start first) funcs) number + 4 * place in
          ap (λ b. if b then Some first.name else name_in (next_start start first) funcs address) (has_none start first address (omega arith)) ∙ more.named place within;
    }

-- an instruction of a block is its function's
pub name_found : (content : ModuleContent) (number : ℕ) (func : Function) → slice_get content.funcs number ≡ Some func → (block place : ℕ)
    → place_before content number block + place < length (instructions_of func.blocks) → name_in first_start content.funcs (code_address content number block place) ≡ Some func.name
name_found content number func defined block place within = (named_in first_start content.funcs number func defined).named (place_before content number block + place) within
