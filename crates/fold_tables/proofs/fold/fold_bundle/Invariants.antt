use Rattle.std.proofs.Common.{◌≡◌, ◌++◌, take, drop}
use Rattle.std.specs.Prelude.{map}
use Rattle.folded_forms.specs.Folded.{folded_operand}
use Rattle.fold_tables.proofs.fold.fold_bundle.Given as goal

abbrev pub invariant-loop-entry : goal.invariant-loop-entry
invariant-loop-entry l =
    take l.entry-index l.entries ++ map (λ entry. (entry.0, folded_operand l.table entry.1)) (drop l.entry-index l.entries)
    ≡ map (λ entry. (entry.0, folded_operand l.table entry.1)) l.initial.entries
