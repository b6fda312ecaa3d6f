use Rattle.std.proofs.Common.{take}
use Rattle.ir_cfg.specs.Filled.{Enters}
use Rattle.ir_cfg.proofs.turned.enter.Given as goal

abbrev pub invariant-loop-to : goal.invariant-loop-to
invariant-loop-to l = Enters l.from (take l.to-index l.row) l.initial.filling l.filling
