-- The edges of a block are the labels of its last instruction.
use Rattle.std.proofs.Common.{◌≡◌, true, false, not, List, [], ◌∷◌, ◌++◌, arith, append-nil, if◌then◌else◌}
use Rattle.std.specs.List.{list_all, flat_map}
use Rattle.sp_ids.specs.declared.ids.BlockId.{BlockId}
use Rattle.ir_ast.specs.Insts.{Instruction}
use Rattle.ir_ast.specs.Ops.{is_terminator}
use Rattle.ir_ast.specs.Blocks.{BasicBlock, EndsAtTerminator}
use Rattle.ir_ast.specs.Edges.{targets}

-- the edges of one instruction
abbrev own_targets : Instruction → List BlockId
own_targets inst = if is_terminator inst.op then inst.labels else []

targets_of_rest : (before : List Instruction) (last : Instruction)
    → list_all (λ inst. not (is_terminator inst.op)) before ≡ true → is_terminator last.op ≡ true
    → flat_map own_targets (before ++ last ∷ []) ≡ last.labels
targets_of_rest [] last inside ends = rw ends (append-nil last.labels)
targets_of_rest (inst ∷ before) last inside ends =
    let rest : list_all (λ inst. not (is_terminator inst.op)) before ≡ true = grind arith in
    let quiet : is_terminator inst.op ≡ false = grind arith in
    grind (arith, targets_of_rest before last rest ends)

pub targets-last : (block : BasicBlock) (ended : EndsAtTerminator block.insts) → targets block ≡ ended.last.labels
targets-last block ended =
    rw ended.whole (targets_of_rest ended.before ended.last ended.inside ended.ends)
