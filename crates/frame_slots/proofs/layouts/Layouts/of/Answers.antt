use Rattle.std.proofs.Common.{arith}
use Rattle.frame_slots.proofs.BlockLemmas.{laid_step}
use Rattle.frame_slots.proofs.layouts.Layouts.of.Goals as goal

pub loop-func-preserved : goal.loop-func-preserved
loop-func-preserved c =
    let known = c.loop-func.invariant in (
      laid_step _ _ _ c.loop-func.start _ c.funcs-funcs.result.now c.args.module.now.content.funcs c.loop-func.func-index c.func-item.result
          c.funcs-funcs.ensures.content c.loop-func-test.true c.func-item.is c.in_ok-add.ensures.laid c.next_start-start.ensures.value known.0,
      omega (arith, known.1, c.next_start-start.ensures.near),
      c.in_ok-add.ensures.within,
    )
