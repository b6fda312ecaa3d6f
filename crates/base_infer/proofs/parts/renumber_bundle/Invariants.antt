use Rattle.std.proofs.Common.{◌≡◌, ◌++◌, take, drop}
use Rattle.std.specs.Prelude.{map}
use Rattle.base_tables.specs.Tables.{now_by}
use Rattle.base_infer.proofs.parts.renumber_bundle.Given as goal

abbrev pub invariant-loop-entry : goal.invariant-loop-entry
invariant-loop-entry l =
    take l.entry-index l.entries ++ map (λ entry. (entry.0, now_by l.tables entry.1)) (drop l.entry-index l.entries)
    ≡ map (λ entry. (entry.0, now_by l.tables entry.1)) l.initial.entries
