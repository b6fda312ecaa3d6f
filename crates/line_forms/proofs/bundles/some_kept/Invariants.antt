use Rattle.line_parts.proofs.Notes.{count}
use Rattle.std.specs.Prelude.{map}
use Rattle.line_parts.specs.Lists.{comma}
use Rattle.line_parts.specs.Bundles.{kept_entry_at}
use Rattle.line_forms.specs.Seen.{seen_kept}
use Rattle.line_parts.proofs.Listing.{Reached}
use Rattle.line_forms.proofs.bundles.some_kept.Given as goal

abbrev pub invariant-loop-kept : goal.invariant-loop-kept
invariant-loop-kept l = Reached kept_entry_at comma l.initial.cursor (map seen_kept l.kept.items) l.cursor

abbrev pub decreases-loop-kept : goal.decreases-loop-kept
decreases-loop-kept l = count l.cursor
