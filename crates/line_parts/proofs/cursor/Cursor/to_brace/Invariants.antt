use Rattle.std.proofs.Common.{◌≡◌, false, length}
use Rattle.line_parts.specs.Parts.{brace_at_end}
use Rattle.line_parts.proofs.cursor.Cursor.to_brace.Given as goal

abbrev pub invariant-loop-token : goal.invariant-loop-token
invariant-loop-token l = brace_at_end l.closed l.self ≡ brace_at_end false l.initial.self

abbrev pub decreases-loop-token : goal.decreases-loop-token
decreases-loop-token l = length l.self
