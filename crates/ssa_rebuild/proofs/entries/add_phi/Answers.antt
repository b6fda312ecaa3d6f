use Rattle.std.proofs.Common.{◌∙◌, Bool, if◌then◌else◌, [], ap, sym, List}
use Rattle.sp_ids.specs.declared.ids.BlockId.{BlockId}
use Rattle.ir_ast.specs.declared.ops.Operand.{Operand}
use Rattle.ir_ast.specs.Faults.PhiEdges.{is_phi}
use Rattle.ssa_rebuild.specs.Rows.{entries_for}
use Rattle.ssa_rebuild.proofs.RowLemmas.{grows_none, grows_same}
use Rattle.ssa_rebuild.proofs.entries.add_phi.Goals as goal

pub returns-in_ok-add_labeled : goal.returns-in_ok-add_labeled
returns-in_ok-add_labeled c =
    let phi = ap is_phi (sym c.op.ensures) ∙ sym c.is_phi.ensures ∙ c.if-is_phi.true in
    grows_same c.args.rows.now.items c.add_labeled.new.rows.items _ _
    (λ p. ap (λ (ls : List BlockId). entries_for p ls c.operands.result.now) c.labels.ensures
    ∙ ap (λ (os : List Operand). entries_for p c.args.inst.now.labels os) c.operands.ensures
    ∙ sym (ap (λ (t : Bool). let os : List Operand = if t then entries_for p c.args.inst.now.labels c.args.inst.now.operands else [] in os) phi))
    c.in_ok-add_labeled.ensures

pub returns-else-is_phi : goal.returns-else-is_phi
returns-else-is_phi c =
    let other = ap is_phi (sym c.op.ensures) ∙ sym c.is_phi.ensures ∙ c.if-is_phi.false in
    grows_none c.args.rows.now.items _
    (λ p within. ap (λ (t : Bool). let os : List Operand = if t then entries_for p c.args.inst.now.labels c.args.inst.now.operands else [] in os) other)
