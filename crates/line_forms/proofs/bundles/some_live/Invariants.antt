use Rattle.line_parts.proofs.Notes.{count}
use Rattle.std.specs.Prelude.{map}
use Rattle.line_parts.specs.Lists.{comma}
use Rattle.line_parts.specs.Bundles.{live_entry_at}
use Rattle.line_parts.specs.Seen.{seen_value}
use Rattle.line_parts.proofs.Listing.{Reached}
use Rattle.line_forms.proofs.bundles.some_live.Given as goal

abbrev pub invariant-loop-live : goal.invariant-loop-live
invariant-loop-live l = Reached live_entry_at comma l.initial.cursor (map seen_value l.live.items) l.cursor

abbrev pub decreases-loop-live : goal.decreases-loop-live
decreases-loop-live l = count l.cursor
