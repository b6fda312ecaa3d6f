use Rattle.std.proofs.Common.{◌∙◌, ℕ, Bool, if◌then◌else◌, [], ap, sym, List}
use Rattle.sp_ids.specs.declared.ids.BlockId.{BlockId}
use Rattle.ir_ast.specs.declared.ops.Operand.{Operand}
use Rattle.ir_ast.specs.Faults.PhiEdges.{is_phi}
use Rattle.ssa_rebuild.specs.Rows.{entries_for}
use Rattle.ssa_rebuild.specs.Arrivals.{labeled_numbers}
use Rattle.ssa_rebuild.proofs.TakeLemmas.{takes_none, takes_same}
use Rattle.ssa_rebuild.proofs.arrivals.take_phi.Goals as goal

pub returns-in_ok-take_labeled : goal.returns-in_ok-take_labeled
returns-in_ok-take_labeled c =
    let phi = ap is_phi (sym c.op.ensures) ∙ sym c.is_phi.ensures ∙ c.if-is_phi.true in
    takes_same c.args.rows.now c.args.arrivals.now c.take_labeled.new.arrivals _ _ _ _
    (λ p. ap (λ (ls : List BlockId). entries_for p ls c.operands.result.now) c.labels.ensures
    ∙ ap (λ (os : List Operand). entries_for p c.args.inst.now.labels os) c.operands.ensures
    ∙ sym (ap (λ (t : Bool). let os : List Operand = if t then entries_for p c.args.inst.now.labels c.args.inst.now.operands else [] in os) phi))
    (λ here. ap (λ (ls : List BlockId). labeled_numbers here ls c.operands.result.now) c.labels.ensures
    ∙ ap (λ (os : List Operand). labeled_numbers here c.args.inst.now.labels os) c.operands.ensures
    ∙ sym (ap (λ (t : Bool). let ns : List ℕ = if t then labeled_numbers here c.args.inst.now.labels c.args.inst.now.operands else [] in ns) phi))
    c.in_ok-take_labeled.ensures

pub returns-else-is_phi : goal.returns-else-is_phi
returns-else-is_phi c =
    let other = ap is_phi (sym c.op.ensures) ∙ sym c.is_phi.ensures ∙ c.if-is_phi.false in
    takes_none c.args.rows.now c.args.arrivals.now _ _
    (λ p. ap (λ (t : Bool). let os : List Operand = if t then entries_for p c.args.inst.now.labels c.args.inst.now.operands else [] in os) other)
    (λ here. ap (λ (t : Bool). let ns : List ℕ = if t then labeled_numbers here c.args.inst.now.labels c.args.inst.now.operands else [] in ns) other)
