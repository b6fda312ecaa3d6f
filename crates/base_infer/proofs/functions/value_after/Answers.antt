use Rattle.std.proofs.Common.{◌∙◌, ℕ, take, ap, sym, arith}
use Rattle.ir_ast.specs.Insts.{Instruction}
use Rattle.object_meaning.specs.Lines.{following, after_all}
use Rattle.base_infer.proofs.LineLemmas.{after_more}
use Rattle.base_infer.proofs.functions.value_after.Goals as goal
use Rattle.object_meaning.proofs.LineLaws.{following_few}

pub loop-inst-preserved : goal.loop-inst-preserved
loop-inst-preserved c =
    let inst = c.inst-item.result in
    let i = c.loop-inst.inst-index in
    record {
      next = c.following-next.ensures ∙ ap (λ (n : ℕ). following n inst) c.loop-inst.invariant.next
          ∙ ap (λ (x : Instruction). following (after_all c.args.start (take i c.args.insts.now)) x) c.inst-item.is
          ∙ sym (after_more c.args.start c.args.insts.now i inst c.loop-inst-test.true);
      few = omega (arith, c.following-next.ensures, following_few c.loop-inst.next inst, c.loop-inst.invariant.few);
    }
