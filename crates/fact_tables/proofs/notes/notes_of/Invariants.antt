use Rattle.pair_facts.specs.Lines.{lines_at}
use Rattle.fact_tables.specs.Notes.{AreNoted}
use Rattle.fact_tables.proofs.notes.notes_of.Given as goal

abbrev pub invariant-loop-place : goal.invariant-loop-place
invariant-loop-place l = AreNoted (lines_at l.func.content l.number) l.place l.start l.head l.starts.items l.heads.items
