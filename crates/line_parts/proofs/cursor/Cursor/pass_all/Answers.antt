use Rattle.std.proofs.Common.{sym, ◌∙◌}
use Rattle.line_parts.proofs.Dropping.{past_dropped-shrinks, past_all-some, past_all-none}
use Rattle.line_parts.proofs.cursor.Cursor.pass_all.Goals as goal

pub loop-rest-smaller : goal.loop-rest-smaller
loop-rest-smaller c = past_dropped-shrinks c.args.what c.loop-rest.self c.in-Some.rest (sym c.past_dropped.ensures ∙ c.in-Some.is)

pub loop-rest-preserved : goal.loop-rest-preserved
loop-rest-preserved c = sym (past_all-some c.args.what c.loop-rest.self c.in-Some.rest (sym c.past_dropped.ensures ∙ c.in-Some.is)) ∙ c.loop-rest.invariant

pub returns : goal.returns
returns c = sym (past_all-none c.args.what c.loop-rest.self (sym c.past_dropped.ensures ∙ c.in_default.is)) ∙ c.loop-rest.invariant
