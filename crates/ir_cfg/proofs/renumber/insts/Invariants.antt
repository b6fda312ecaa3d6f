use Rattle.std.proofs.Common.{◌≡◌, map}
use Rattle.ir_cfg.specs.Unreached.{inst_kept}
use Rattle.ir_cfg.proofs.renumber.insts.Given as goal

abbrev pub invariant-loop-one : goal.invariant-loop-one
invariant-loop-one l = l.kept.items ≡ map (inst_kept l.renumber) l.yielded
