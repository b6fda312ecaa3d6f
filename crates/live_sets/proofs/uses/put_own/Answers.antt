use Rattle.std.proofs.Common.{◌∙◌, ap, sym, subst, List, ℕ, Bool, ◌||◌}
use Rattle.std.specs.List.{list_any}
use Rattle.ir_ast.specs.Faults.PhiEdges.{is_phi}
use Rattle.ir_ast.specs.declared.ops.Operand.{Operand}
use Rattle.live_sets.specs.Sets.{Changed}
use Rattle.live_sets.specs.Uses.{uses}
use Rattle.live_sets.proofs.SetLemmas.{put_phi, put_other}
use Rattle.live_sets.proofs.uses.put_own.Goals as goal

pub returns-then-is_phi : goal.returns-then-is_phi
returns-then-is_phi c =
    put_phi c.args.marks.now (is_phi c.args.inst.now.op) (λ v. list_any (uses c.args.marks.now c.args.bases.now v) c.args.inst.now.operands) c.args.set.now
    (ap is_phi (sym c.op.ensures) ∙ sym c.is_phi.ensures ∙ c.if-is_phi.true)

pub returns : goal.returns
returns c =
    put_other c.args.marks.now (is_phi c.args.inst.now.op) (λ v. list_any (uses c.args.marks.now c.args.bases.now v) c.args.inst.now.operands) c.args.set.now c.put_operands.new.set
    (ap is_phi (sym c.op.ensures) ∙ sym c.is_phi.ensures ∙ c.if-is_phi.false)
    (subst (λ (os : List Operand). Changed c.args.marks.now c.args.set.now c.put_operands.new.set (λ (v : ℕ) (old : Bool). list_any (uses c.args.marks.now c.args.bases.now v) os || old)) c.operands.ensures c.in_ok-put_operands.ensures)
