use Rattle.line_parts.proofs.Notes.{count}
use Rattle.std.specs.Prelude.{map}
use Rattle.line_parts.specs.Lists.{comma}
use Rattle.line_parts.specs.Parts.{allowed_type_at, is_value_type}
use Rattle.line_parts.specs.Seen.{seen_type}
use Rattle.line_parts.proofs.Listing.{Reached}
use Rattle.line_parts.proofs.cursor.Cursor.some_fields.Given as goal

abbrev pub invariant-loop-fields : goal.invariant-loop-fields
invariant-loop-fields l = Reached (allowed_type_at is_value_type) comma l.initial.self (map seen_type l.fields.items) l.self

abbrev pub decreases-loop-fields : goal.decreases-loop-fields
decreases-loop-fields l = count l.self
