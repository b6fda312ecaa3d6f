use Rattle.std.proofs.Common.{◌≡◌}
use Rattle.pair_facts.specs.Lines.{lines_at}
use Rattle.fact_tables.specs.Notes.{head_before}
use Rattle.used_pairs.specs.Lists.{AreUsed}
use Rattle.used_pairs.proofs.uses.add_block.Given as goal

abbrev pub invariant-loop-place : goal.invariant-loop-place
invariant-loop-place l = record {
  head_is : l.head ≡ head_before (lines_at l.func.content l.number) l.place;
  used : AreUsed l.func.content l.number l.place l.used.items;
}
