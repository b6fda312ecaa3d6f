use Rattle.line_parts.proofs.Notes.{count}
use Rattle.line_parts.specs.Lists.{comma, is_argument_type}
use Rattle.std.specs.Prelude.{true, map}
use Rattle.line_parts.specs.Parts.{allowed_type_at}
use Rattle.line_parts.specs.Seen.{seen_type}
use Rattle.line_parts.proofs.Listing.{Reached}
use Rattle.line_parts.proofs.signatures.some_parameters.Given as goal

abbrev pub invariant-loop-parameters : goal.invariant-loop-parameters
invariant-loop-parameters l = Reached (allowed_type_at (is_argument_type true)) comma l.initial.cursor (map seen_type l.parameters.items) l.cursor

abbrev pub decreases-loop-parameters : goal.decreases-loop-parameters
decreases-loop-parameters l = count l.cursor
