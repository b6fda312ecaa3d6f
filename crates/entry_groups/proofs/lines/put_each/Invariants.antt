use Rattle.std.proofs.Common.{◌≡◌, ◌++◌, take, drop}
use Rattle.std.specs.Prelude.{map}
use Rattle.entry_groups.specs.Entry.{put}
use Rattle.entry_groups.proofs.lines.put_each.Given as goal

abbrev pub invariant-loop-operand : goal.invariant-loop-operand
invariant-loop-operand l = take l.operand-index l.operands ++ map (put l.row) (drop l.operand-index l.operands) ≡ map (put l.row) l.initial.operands
