use Rattle.std.proofs.Common.{inl, inr}
use Rattle.ir_ast.specs.declared.types.Ty.{Ty}
use Rattle.ir_ast.specs.declared.ops.Operand.{Operand}
use Rattle.ir_ast.specs.Operands.{named}
use Rattle.fold_tables.proofs.ListLaws.{image_before, image_here}
use Rattle.fold_tables.proofs.left.mark_entries.Goals as goal

pub loop-ty-preserved : goal.loop-ty-preserved
loop-ty-preserved c = λ value marked.
    let operand_in : Ty × Operand → Operand = λ entry. entry.1 in
    elim (c.mark.ensures value marked) [
      | inl before ↦ elim (c.loop-ty.invariant value before) [
        | inl at_first ↦ inl at_first
        | inr used ↦ inr (image_before operand_in c.args.entries.now c.loop-ty._ty-index (named value) c.loop-ty-test.true used.0, used.1)
      ]
      | inr own ↦ inr (image_here operand_in c.args.entries.now c.loop-ty._ty-index _ (named value) c.loop-ty-test.true own.0, own.1)
    ]
