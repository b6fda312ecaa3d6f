use Rattle.std.proofs.Common.{◌≡◌, ℕ, ◌<◌, true}
use Rattle.object_meaning.specs.Frames.{is_member}
use Rattle.pair_facts.specs.Lines.{lines_at, line_in}
use Rattle.fact_tables.proofs.groups.group_end.Given as goal

abbrev pub invariant-loop-place : goal.invariant-loop-place
invariant-loop-place l = (k : ℕ) → l.head < k → k < l.place → is_member (line_in (lines_at l.func.content l.block) k).inst.op ≡ true
