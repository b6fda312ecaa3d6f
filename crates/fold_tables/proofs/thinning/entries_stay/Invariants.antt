use Rattle.std.proofs.Common.{take}
use Rattle.std.specs.List.{All}
use Rattle.fold_tables.specs.Checks.{StaysIn}
use Rattle.fold_tables.proofs.thinning.entries_stay.Given as goal

abbrev pub invariant-loop-ty : goal.invariant-loop-ty
invariant-loop-ty l = All (λ entry. StaysIn l.table entry.1) (take l._ty-index l.entries)
