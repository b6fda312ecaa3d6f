use Rattle.line_parts.proofs.Notes.{count}
use Rattle.std.specs.Prelude.{true, map}
use Rattle.line_parts.specs.Lists.{passed_at}
use Rattle.line_parts.specs.Groups.{begins_argument}
use Rattle.line_parts.specs.Seen.{seen_passed}
use Rattle.line_parts.proofs.Listing.{Reached}
use Rattle.line_parts.proofs.passing.some_handed.Given as goal

abbrev pub invariant-loop-all : goal.invariant-loop-all
invariant-loop-all l = Reached (passed_at true) begins_argument l.initial.cursor (map seen_passed l.all.items) l.cursor

abbrev pub decreases-loop-all : goal.decreases-loop-all
decreases-loop-all l = count l.cursor
