-- The instructions of a block, as they are read.
use Rattle.std.proofs.Common.{◌≡◌, ◌∙◌, ℕ, zero, suc, ◌<◌, ◌≤◌, List, [], ◌∷◌, Some, refl, ap, sym, slice_get, length, arith, get_or}
use Rattle.std.specs.Prelude.{slice_index}
use Rattle.std.proofs.lemmas.List.{length-append}
use Rattle.std.proofs.lemmas.Option.{none-some, same_Some, slice_get_read}
use Rattle.ir_ast.specs.Insts.{Instruction}
use Rattle.ir_ast.specs.Blocks.{BasicBlock}
use Rattle.ir_ast.specs.Funcs.{Function, instructions_of}
use Rattle.object_meaning.specs.Lines.{insts_in, registers_of}
use Rattle.pair_facts.specs.Lines.{lines_at, line_in}
use Rattle.fact_tables.proofs.LineLemmas.{insts_are}
use Rattle.fact_tables.proofs.NoteLemmas.{inst_at}
use Rattle.object_meaning.proofs.LineLaws.{plain_count}

pub insts_within : (blocks : List BasicBlock) (number : ℕ) (block : BasicBlock) → slice_get blocks number ≡ Some block → length block.insts ≤ length (instructions_of blocks)
insts_within [] number block at = absurd (none-some block at)
insts_within (first ∷ blocks) zero block at =
    let same : length first.insts ≡ length block.insts = ap (λ (b : BasicBlock). length b.insts) (same_Some first block at) in
    omega (arith, same, length-append first.insts (instructions_of blocks))
insts_within (first ∷ blocks) (suc number) block at = omega (arith, insts_within blocks number block at, length-append first.insts (instructions_of blocks))

pub count_lines : (func : Function) (number : ℕ) (block : BasicBlock) → slice_get func.blocks number ≡ Some block → length (lines_at func number) ≡ length block.insts
count_lines func number block at = plain_count (slice_index (registers_of func) number) (insts_in func number) ∙ ap length (insts_are func number block at)

-- a block that was read
pub block_read : (func : Function) (blocks : List BasicBlock) (number : ℕ) (block : BasicBlock) → blocks ≡ func.blocks → number < length func.blocks
    → block ≡ get_or blocks number block → slice_get func.blocks number ≡ Some block
block_read func blocks number block same below is =
    ap (λ (xs : List BasicBlock). slice_get xs number) (sym same) ∙ slice_get_read blocks (length blocks) number block refl (omega (arith, below, ap length same)) is

-- an instruction that was read in its block
pub inst_read : (func : Function) (number place : ℕ) (block : BasicBlock) (insts : List Instruction) (inst : Instruction) → slice_get func.blocks number ≡ Some block
    → insts ≡ block.insts → place < length insts → inst ≡ get_or insts place inst → (line_in (lines_at func number) place).inst ≡ inst
inst_read func number place block insts inst at are below read =
    inst_at func number place inst
    (ap (λ (xs : List Instruction). slice_get xs place) (insts_are func number block at ∙ sym are) ∙ slice_get_read insts (length insts) place inst refl below read)
