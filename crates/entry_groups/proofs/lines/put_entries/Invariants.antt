use Rattle.std.proofs.Common.{◌≡◌, ◌++◌, take, drop}
use Rattle.std.specs.Prelude.{map}
use Rattle.entry_groups.specs.Entry.{put}
use Rattle.entry_groups.proofs.lines.put_entries.Given as goal

abbrev pub invariant-loop-entry : goal.invariant-loop-entry
invariant-loop-entry l =
    take l.entry-index l.entries ++ map (λ entry. (entry.0, put l.row entry.1)) (drop l.entry-index l.entries)
    ≡ map (λ entry. (entry.0, put l.row entry.1)) l.initial.entries
