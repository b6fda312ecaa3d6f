use Rattle.std.proofs.Common.{◌≡◌, ◌∙◌, ℕ, sym, ap, subst, arith}
use Rattle.std.specs.Prelude.{Some, slice_get}
use Rattle.std.specs.Borrow.{Bor}
use Rattle.list_laws.proofs.Places.{seen_at}
use Rattle.ir_ast.specs.Insts.{Instruction}
use Rattle.body_tables.specs.Bodies.{seen_insts}
use Rattle.object_meaning.specs.Lines.{following}
use Rattle.object_meaning.proofs.LineLaws.{following_few}
use Rattle.fold_tables.specs.Checks.{ThinsAt}
use Rattle.fold_tables.specs.Lines.{value_at}
use Rattle.fold_tables.proofs.LineLaws.{each_more, value_next}
use Rattle.fold_tables.proofs.thinning.thins_each.Goals as goal

pub loop-inst-preserved : goal.loop-inst-preserved
loop-inst-preserved c =
    let insts = seen_insts c.args.insts.now in
    let i = c.loop-inst.inst-index in
    let inst = c.inst-item.result.now in
    let first = c.args.first in
    let Is : ℕ → Instruction → Type 0 = ThinsAt c.args.table.now in
    let at : slice_get insts i ≡ Some inst = seen_at (λ (one : Bor Instruction). one.now) c.args.insts.now i c.inst-item.result c.loop-inst-test.true c.inst-item.is in
    let own : Is (value_at first insts i) inst = subst (λ (n : ℕ). Is n inst) c.loop-inst.invariant.next c.if-not-thins_at.ensures in
    record {
      next = c.following-next.ensures ∙ ap (λ (n : ℕ). following n inst) c.loop-inst.invariant.next ∙ sym (value_next first insts i inst at);
      few = omega (arith, c.following-next.ensures, following_few c.loop-inst.next inst, c.loop-inst.invariant.few);
      each = each_more Is first insts i inst at c.loop-inst.invariant.each own;
    }
