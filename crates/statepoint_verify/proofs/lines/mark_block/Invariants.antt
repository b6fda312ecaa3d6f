use Rattle.pair_facts.specs.Lines.{lines_at}
use Rattle.fact_tables.specs.Notes.{head_before}
use Rattle.fact_tables.specs.Groups.{IsGroupOf}
use Rattle.statepoint_verify.specs.Marks.{AreMarked}
use Rattle.statepoint_verify.proofs.lines.mark_block.Given as goal

abbrev pub invariant-loop-place : goal.invariant-loop-place
invariant-loop-place l = record {
  group : IsGroupOf (lines_at l.func.content l.number) (head_before (lines_at l.func.content l.number) l.place) l.group;
  marks : AreMarked l.func.content l.number l.place l.marks.items;
}
