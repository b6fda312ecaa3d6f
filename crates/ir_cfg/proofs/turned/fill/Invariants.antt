use Rattle.std.proofs.Common.{◌≤◌, length}
use Rattle.ir_cfg.specs.Filled.{IsFilledFrom}
use Rattle.ir_cfg.proofs.turned.fill.Given as goal

abbrev pub invariant-loop-from : goal.invariant-loop-from
invariant-loop-from l = record {
  within : l.from ≤ length l.succs;
  filled : IsFilledFrom l.succs l.from l.filling;
}

abbrev pub decreases-loop-from : goal.decreases-loop-from
decreases-loop-from l = l.from
