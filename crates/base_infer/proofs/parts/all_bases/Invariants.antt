use Rattle.std.proofs.Common.{◌≡◌, take}
use Rattle.std.specs.Prelude.{map}
use Rattle.base_tables.specs.Tables.{base_by}
use Rattle.base_infer.proofs.parts.all_bases.Given as goal

abbrev pub invariant-loop-operand : goal.invariant-loop-operand
invariant-loop-operand l = l.bases.items ≡ map (base_by l.tables) (take l.operand-index l.operands)
