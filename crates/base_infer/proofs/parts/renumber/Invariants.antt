use Rattle.std.proofs.Common.{◌≡◌, ◌++◌, take, drop}
use Rattle.std.specs.Prelude.{map}
use Rattle.base_tables.specs.Tables.{now_by}
use Rattle.base_infer.proofs.parts.renumber.Given as goal

abbrev pub invariant-loop-operand : goal.invariant-loop-operand
invariant-loop-operand l =
    take l.operand-index l.operands ++ map (now_by l.tables) (drop l.operand-index l.operands) ≡ map (now_by l.tables) l.initial.operands
