-- The lines of a block by its instructions.
use Rattle.std.proofs.Common.{◌≡◌, ℕ, zero, suc, List, [], ◌∷◌, Option, Some, None, refl, ap, sym, slice_get, take}
use Rattle.std.specs.Prelude.{slice_index}
use Rattle.std.specs.Option.{option_map_or}
use Rattle.std.proofs.lemmas.Option.{none-some, same_Some}
use Rattle.ir_ast.specs.Insts.{Instruction}
use Rattle.ir_ast.specs.Blocks.{BasicBlock}
use Rattle.ir_ast.specs.Funcs.{Function}
use Rattle.object_meaning.specs.Lines.{following, after_all, first_registers, insts_in}
use Rattle.object_meaning.specs.TargetRuns.{plain_lines}
use Rattle.pair_facts.specs.Lines.{line_in, no_line}

pub plain_none : (next : ℕ) (insts : List Instruction) (place : ℕ) → slice_get insts place ≡ None → line_in (plain_lines next insts) place ≡ no_line
plain_none next [] zero none = refl
plain_none next [] (suc place) none = refl
plain_none next (first ∷ insts) zero none = absurd (none-some first (sym none))
plain_none next (first ∷ insts) (suc place) none = plain_none (following next first) insts place none

pub after_all_more : (next : ℕ) (insts : List Instruction) (place : ℕ) (inst : Instruction) → slice_get insts place ≡ Some inst
    → after_all next (take (suc place) insts) ≡ following (after_all next (take place insts)) inst
after_all_more next [] place inst at = absurd (none-some inst at)
after_all_more next (first ∷ insts) zero inst at = ap (λ (i : Instruction). following next i) (same_Some first inst at)
after_all_more next (first ∷ insts) (suc place) inst at = after_all_more (following next first) insts place inst at

-- the first value of the next block
pub registers_next : (next : ℕ) (blocks : List BasicBlock) (number : ℕ) (block : BasicBlock) → slice_get blocks number ≡ Some block
    → slice_index (first_registers next blocks) (suc number) ≡ after_all (slice_index (first_registers next blocks) number) block.insts
registers_next next [] number block at = absurd (none-some block at)
registers_next next (first ∷ []) zero block at = ap (λ (b : BasicBlock). after_all next b.insts) (same_Some first block at)
registers_next next (first ∷ second ∷ blocks) zero block at = ap (λ (b : BasicBlock). after_all next b.insts) (same_Some first block at)
registers_next next (first ∷ blocks) (suc number) block at = registers_next (after_all next first.insts) blocks number block at

pub insts_are : (func : Function) (number : ℕ) (block : BasicBlock) → slice_get func.blocks number ≡ Some block → insts_in func number ≡ block.insts
insts_are func number block at = ap (λ (found : Option BasicBlock). option_map_or (λ (b : BasicBlock). b.insts) found []) at
