use Rattle.std.proofs.Common.{suc, ◌-◌, take}
use Rattle.pair_facts.specs.Lines.{lines_at, group_in}
use Rattle.fact_tables.specs.Groups.{IsKept}
use Rattle.fact_tables.proofs.groups.kept_by.Given as goal

abbrev pub invariant-loop-place : goal.invariant-loop-place
invariant-loop-place l = IsKept (take (l.place - suc l.head) (group_in (lines_at l.func.content l.block) l.head)) l.kept
