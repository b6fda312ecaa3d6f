use Rattle.std.proofs.Common.{◌≡◌, ◌∙◌, ℕ, inl, inr, sym, ap, arith}
use Rattle.std.specs.Prelude.{Some, slice_get}
use Rattle.std.specs.Borrow.{Bor}
use Rattle.list_laws.proofs.Places.{seen_at}
use Rattle.ir_ast.specs.Insts.{Instruction}
use Rattle.body_tables.specs.Bodies.{seen_insts}
use Rattle.object_meaning.specs.Lines.{following}
use Rattle.object_meaning.proofs.LineLaws.{following_few}
use Rattle.fold_tables.proofs.LineLaws.{value_next}
use Rattle.fold_tables.proofs.CheckLaws.{given_is}
use Rattle.fold_tables.proofs.left.mark_each.Goals as goal

pub loop-inst-preserved : goal.loop-inst-preserved
loop-inst-preserved c =
    let insts = seen_insts c.args.insts.now in
    let i = c.loop-inst.inst-index in
    let inst = c.inst-item.result.now in
    let first = c.args.first in
    let at : slice_get insts i ≡ Some inst = seen_at (λ (one : Bor Instruction). one.now) c.args.insts.now i c.inst-item.result c.loop-inst-test.true c.inst-item.is in
    record {
      next = c.following-next.ensures ∙ ap (λ (n : ℕ). following n inst) c.loop-inst.invariant.next ∙ sym (value_next first insts i inst at);
      few = omega (arith, c.following-next.ensures, following_few c.loop-inst.next inst, c.loop-inst.invariant.few);
      marks = λ value marked. elim (c.mark_used.ensures value marked) [
        | inl before ↦ c.loop-inst.invariant.marks value before
        | inr used ↦ inr (record {
          place = i;
          user = inst;
          stands = at;
          uses = used.0;
          another = λ named same. used.1 (c.given.ensures ∙ given_is c.loop-inst.next value inst named (c.loop-inst.invariant.next ∙ same));
        })
      ];
    }
