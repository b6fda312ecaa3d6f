use Rattle.std.proofs.Common.{◌≡◌}
use Rattle.pair_facts.specs.Lines.{lines_at}
use Rattle.fact_tables.specs.Notes.{told, head_before}
use Rattle.fact_tables.specs.Groups.{IsGroupOf, is_based}
use Rattle.fact_tables.proofs.groups.based_of.Given as goal

abbrev pub invariant-loop-place : goal.invariant-loop-place
invariant-loop-place l = record {
  based : l.based.items ≡ told (is_based (lines_at l.func.content l.number)) l.place;
  group : IsGroupOf (lines_at l.func.content l.number) (head_before (lines_at l.func.content l.number) l.place) l.group;
}
