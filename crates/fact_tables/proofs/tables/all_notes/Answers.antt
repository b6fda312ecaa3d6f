use Rattle.fact_tables.proofs.TableLemmas.{notes_pushed}
use Rattle.fact_tables.proofs.tables.all_notes.Goals as goal

pub loop-number-preserved : goal.loop-number-preserved
loop-number-preserved c =
    let func = c.args.func.now.content in
    rw c.in_ok-push.ensures.items
    (notes_pushed func c.loop-number.number c.loop-number.notes.items _ c.loop-number.invariant c.in_ok-notes_of.ensures)
