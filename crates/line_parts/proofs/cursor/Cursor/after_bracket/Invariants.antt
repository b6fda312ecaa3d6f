use Rattle.std.proofs.Common.{◌≡◌, ◌+◌, ◌≤◌, ◌^◌, length}
use Rattle.line_parts.specs.Drops.{after_bracket}
use Rattle.line_parts.proofs.cursor.Cursor.after_bracket.Given as goal

abbrev pub invariant-loop-token : goal.invariant-loop-token
invariant-loop-token l = (after_bracket l.depth l.rest ≡ after_bracket 0 l.self) × (l.depth + length l.rest ≤ 2 ^ 63)

abbrev pub decreases-loop-token : goal.decreases-loop-token
decreases-loop-token l = length l.rest
