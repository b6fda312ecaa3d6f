use Rattle.std.proofs.Common.{◌≡◌}
use Rattle.line_parts.specs.Drops.{past_all}
use Rattle.line_parts.proofs.Notes.{count}
use Rattle.line_parts.proofs.cursor.Cursor.pass_all.Given as goal

abbrev pub invariant-loop-rest : goal.invariant-loop-rest
invariant-loop-rest l = past_all l.what l.self ≡ past_all l.what l.initial.self

abbrev pub decreases-loop-rest : goal.decreases-loop-rest
decreases-loop-rest l = count l.self
