use Rattle.std.proofs.Common.{◌∙◌, ◌++◌, List, ap}
use Rattle.ir_ast.specs.declared.ops.Operand.{Operand}
use Rattle.ir_ast.specs.declared.types.Ty.{Ty}
use Rattle.version_walk.specs.declared.slots.Slot.{Slot}
use Rattle.ssa_rebuild.specs.Rows.{uses_of, held_in}
use Rattle.ssa_rebuild.proofs.RowLemmas.{joined_on}
use Rattle.ssa_rebuild.proofs.lines.push_plain.Goals as goal

pub returns : goal.returns
returns c =
    let held = c.in_ok-push_held.ensures ∙ ap (λ (es : List (Ty × Operand)). c.push_own_uses.new.row.items ++ uses_of (held_in es)) c.bundle.ensures in
    joined_on {A = Slot} c.args.row.now.items c.push_own_uses.new.row.items _ _ _ c.in_ok-push_own_uses.ensures
    (joined_on {A = Slot} c.push_own_uses.new.row.items c.push_held.new.row.items _ _ _ held c.in_ok-push_own.ensures)
