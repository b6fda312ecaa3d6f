use Rattle.line_parts.proofs.Notes.{count}
use Rattle.std.specs.Prelude.{map}
use Rattle.line_parts.specs.Lists.{comma, argument_at}
use Rattle.line_parts.specs.Seen.{seen_argument}
use Rattle.line_parts.proofs.Listing.{Reached}
use Rattle.line_parts.proofs.cursor.Cursor.some_arguments.Given as goal

abbrev pub invariant-loop-arguments : goal.invariant-loop-arguments
invariant-loop-arguments l = Reached (argument_at l.plain) comma l.initial.self (map seen_argument l.arguments.items) l.self

abbrev pub decreases-loop-arguments : goal.decreases-loop-arguments
decreases-loop-arguments l = count l.self
