use Rattle.std.proofs.Common.{◌≡◌, ◌++◌, take, drop}
use Rattle.std.specs.Prelude.{map}
use Rattle.folded_forms.specs.Folded.{folded_operand}
use Rattle.fold_tables.proofs.fold.fold_operands.Given as goal

abbrev pub invariant-loop-operand : goal.invariant-loop-operand
invariant-loop-operand l =
    take l.operand-index l.operands ++ map (folded_operand l.table) (drop l.operand-index l.operands) ≡ map (folded_operand l.table) l.initial.operands
