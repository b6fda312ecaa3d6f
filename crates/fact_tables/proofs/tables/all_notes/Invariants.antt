use Rattle.fact_tables.specs.Tables.{AreNotes}
use Rattle.fact_tables.proofs.tables.all_notes.Given as goal

abbrev pub invariant-loop-number : goal.invariant-loop-number
invariant-loop-number l = AreNotes l.func.content l.number l.notes.items
