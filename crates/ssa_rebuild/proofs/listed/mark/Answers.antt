use Rattle.std.proofs.Common.{◌∙◌, Bool, false, List, get_or, ap, arith}
use Rattle.ssa_rebuild.proofs.MarkLemmas.{push_same, marks_set}
use Rattle.ssa_rebuild.proofs.listed.mark.Goals as goal

pub loop-marks-preserved : goal.loop-marks-preserved
loop-marks-preserved c v =
    ap (λ (ms : List Bool). get_or ms v false) c.in_ok-push.ensures.items ∙ push_same c.loop-marks.marks.items v ∙ c.loop-marks.invariant v

pub returns : goal.returns
returns c = marks_set c.args.marks.now.items c.loop-marks.marks.items c.args.value.0 (omega (arith, c.loop-marks-test.false, c.len.ensures)) c.loop-marks.invariant

pub loop-marks-smaller : goal.loop-marks-smaller
loop-marks-smaller c = omega (arith, c.in_ok-push.ensures.len, c.loop-marks-test.true, c.len.ensures)
