use Rattle.std.proofs.Common.{take}
use Rattle.std.proofs.lemmas.List.{take_more}
use Rattle.ssa_rebuild.specs.Rows.{uses_of, held_in}
use Rattle.ssa_rebuild.proofs.RowLemmas.{added_more, uses_append, held_more}
use Rattle.ssa_rebuild.proofs.lines.push_held.Goals as goal

pub loop-entry-preserved : goal.loop-entry-preserved
loop-entry-preserved c =
    let i = c.loop-entry.entry-index in
    added_more uses_of uses_append (held_in (take i c.args.bundle.now)) _ _ c.args.row.now.items c.loop-entry.row.items c.push_use.new.row.items
    (held_more c.args.bundle.now i _ (take_more c.args.bundle.now i _ c.loop-entry-test.true)) c.loop-entry.invariant c.in_ok-push_use.ensures
