use Rattle.std.proofs.Common.{◌≡◌, map, take}
use Rattle.ir_cfg.specs.Unreached.{kept_of, operand_kept, has_mark}
use Rattle.ir_cfg.proofs.renumber.entries.Given as goal

abbrev pub invariant-loop-place : goal.invariant-loop-place
invariant-loop-place l = l.kept.items ≡ map (operand_kept l.renumber) (kept_of (map (has_mark l.renumber) l.labels) (take l.place l.operands))
