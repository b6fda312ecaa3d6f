use Rattle.std.proofs.Common.{sym, ◌∙◌}
use Rattle.ir_cfg.proofs.GraphLemmas.{labels_of_last}
use Rattle.entry_groups.proofs.waits.edges_of.Goals as goal

pub returns-in-Some : goal.returns-in-Some
returns-in-Some c =
    let found = rw c.in-Some.is at c.last.ensures.value in
    let stands = rw c.insts.ensures.value at (sym found) in
    c.labels.ensures ∙ labels_of_last c.args.block.now c.in-Some.inst.now c.insts.ensures.ends stands
