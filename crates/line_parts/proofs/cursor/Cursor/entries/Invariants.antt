use Rattle.line_parts.proofs.Notes.{count}
use Rattle.std.specs.Prelude.{map}
use Rattle.line_parts.specs.Lists.{begins_entry, entry_at}
use Rattle.line_parts.specs.Seen.{seen_entry}
use Rattle.line_parts.proofs.Listing.{Reached}
use Rattle.line_parts.proofs.cursor.Cursor.entries.Given as goal

abbrev pub invariant-loop-entries : goal.invariant-loop-entries
invariant-loop-entries l = Reached entry_at begins_entry l.initial.self (map seen_entry l.entries.items) l.self

abbrev pub decreases-loop-entries : goal.decreases-loop-entries
decreases-loop-entries l = count l.self
