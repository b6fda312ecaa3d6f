use Rattle.line_parts.proofs.Notes.{count}
use Rattle.std.specs.Prelude.{map}
use Rattle.line_parts.specs.Lists.{comma, passed_at}
use Rattle.line_parts.specs.Seen.{seen_passed}
use Rattle.line_parts.proofs.Listing.{Reached}
use Rattle.line_parts.proofs.cursor.Cursor.some_passed.Given as goal

abbrev pub invariant-loop-all : goal.invariant-loop-all
invariant-loop-all l = Reached (passed_at l.plain) comma l.initial.self (map seen_passed l.all.items) l.self

abbrev pub decreases-loop-all : goal.decreases-loop-all
decreases-loop-all l = count l.self
