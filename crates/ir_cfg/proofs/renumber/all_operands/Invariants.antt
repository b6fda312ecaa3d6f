use Rattle.std.proofs.Common.{◌≡◌, map, take}
use Rattle.ir_cfg.specs.Unreached.{operand_kept}
use Rattle.ir_cfg.proofs.renumber.all_operands.Given as goal

abbrev pub invariant-loop-operand : goal.invariant-loop-operand
invariant-loop-operand l = l.kept.items ≡ map (operand_kept l.renumber) (take l.operand-index l.operands)
