use Rattle.std.proofs.Common.{◌∙◌, ◌++◌, ◌∷◌, [], List, ap}
use Rattle.ir_ast.specs.declared.ops.Operand.{Operand}
use Rattle.ir_ast.specs.declared.types.Ty.{Ty}
use Rattle.version_walk.specs.declared.slots.Slot.{Slot}
use Rattle.ssa_rebuild.specs.Rows.{uses_of, held_in}
use Rattle.ssa_rebuild.proofs.RowLemmas.{joined_on}
use Rattle.ssa_rebuild.proofs.lines.push_call.Goals as goal

pub returns : goal.returns
returns c =
    let used = c.in_ok-push_uses.ensures ∙ ap (λ (os : List Operand). c.args.row.now.items ++ uses_of os) c.operands.ensures in
    let held = c.in_ok-push_held.ensures ∙ ap (λ (es : List (Ty × Operand)). c.push_entries.new.row.items ++ uses_of (held_in es)) c.bundle.ensures in
    let token = c.in_ok-push.ensures.items ∙ ap (λ (slot : Slot). c.push_held.new.row.items ++ slot ∷ []) c.in_ok-of.ensures in
    joined_on {A = Slot} c.args.row.now.items c.push_uses.new.row.items _ _ _ used
    (joined_on {A = Slot} c.push_uses.new.row.items c.push_entries.new.row.items _ _ _ c.in_ok-push_entries.ensures
    (joined_on {A = Slot} c.push_entries.new.row.items c.push_held.new.row.items _ _ _ held
    (joined_on {A = Slot} c.push_held.new.row.items c.push.new.self.items _ _ _ token
    (joined_on {A = Slot} c.push.new.self.items c.push_own.new.row.items _ _ _ c.in_ok-push_own.ensures c.in_ok-push_relocated.ensures))))
