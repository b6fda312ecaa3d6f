use Rattle.std.proofs.Common.{ℕ, take, get_or}
use Rattle.live_sets.specs.Starts.{entry_adds, entries_add}
use Rattle.live_sets.proofs.StartLemmas.{grown_none, grown_both, entries_none, entries_step}
use Rattle.live_sets.proofs.starts.add_entries.Goals as goal

pub loop-index-init : goal.loop-index-init
loop-index-init c = grown_none c.args.wanted.now c.args.starts.now.items _ (λ v within. entries_none c.args.marks.now c.args.bases.now v c.args.labels.now)

pub loop-index-preserved : goal.loop-index-preserved
loop-index-preserved c =
    let marks = c.args.marks.now in
    let bases = c.args.bases.now in
    let labels = c.args.labels.now in
    let operands = c.args.operands.now in
    let at = c.loop-index.index in
    grown_both c.args.wanted.now c.args.starts.now.items c.loop-index.starts.items c.add_entry.new.starts.items (λ (v : ℕ). entries_add marks bases v labels (take at operands))
    (λ (v : ℕ). entry_adds marks bases v c.label_at.result (get_or operands at _)) _ c.loop-index.invariant c.in_ok-add_entry.ensures
    (λ v. entries_step marks bases v at labels operands _ c.label_at.result c.loop-index-test.true c.label_at.ensures)
