use Rattle.std.proofs.Common.{◌≡◌, ◌⊎◌, take}
use Rattle.std.specs.List.{All}
use Rattle.ir_ast.specs.Operands.{named}
use Rattle.folded_forms.specs.Folded.{stands_for}
use Rattle.fold_tables.proofs.folding.entries_stand.Given as goal

abbrev pub invariant-loop-operand : goal.invariant-loop-operand
invariant-loop-operand l = All (λ entry. (entry ≡ named l.value.0) ⊎ (stands_for l.table entry ≡ l.to)) (take l.operand-index l.operands)
