use Rattle.std.proofs.Common.{sym, arith, append-nil}
use Rattle.definite_assign.proofs.AskedLemmas.{entries_none, entries_more}
use Rattle.definite_assign.proofs.uses.ask_entries.Goals as goal

pub loop-index-init : goal.loop-index-init
loop-index-init c = rw (entries_none c.args.homes.now c.args.arguments c.args.place c.args.labels.now) (sym (append-nil c.args.uses.now.items))

pub loop-index-preserved : goal.loop-index-preserved
loop-index-preserved c =
    entries_more c.args.homes.now c.args.arguments c.args.place c.loop-index.index c.args.labels.now c.args.operands.now _ c.label_at-label.result
    c.args.uses.now.items c.loop-index.uses.items c.ask_entry.new.uses.items (omega arith) c.label_at-label.ensures c.loop-index.invariant c.in_ok-ask_entry.ensures
