use Rattle.std.proofs.Common.{◌≡◌, take}
use Rattle.std.specs.List.{All}
use Rattle.folded_forms.specs.Folded.{stands_for}
use Rattle.fold_tables.proofs.folding.is_closed.Given as goal

abbrev pub invariant-loop-operand : goal.invariant-loop-operand
invariant-loop-operand l = All (λ operand. stands_for l.table operand ≡ operand) (take l.operand-index l.table)
