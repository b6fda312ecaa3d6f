use Rattle.std.proofs.Common.{refl}
use Rattle.ir_lines.proofs.FirstLemmas.{adds-to-table, adds-to-tree, same_keeps}
use Rattle.ir_lines.proofs.firsts.Firsts.put.Goals as goal

pub returns-in-Ok-clause-added : goal.returns-in-Ok-clause-added
returns-in-Ok-clause-added c =
    adds-to-table _ _ c.args.name.now c.args.place c.requires refl c.in-Ok.ensures.updates.3 c.in-Ok.ensures.updates.1

pub returns-in-Err-clause-err : goal.returns-in-Err-clause-err
returns-in-Err-clause-err c = same_keeps _ _ c.in-Err.ensures.err refl

pub returns-in-Ok-insert-clause-added : goal.returns-in-Ok-insert-clause-added
returns-in-Ok-insert-clause-added c =
    adds-to-tree _ _ c.args.name.now c.args.place c.requires refl c.in-Ok-insert.ensures.updates.3 c.in-Ok-insert.ensures.updates.1

pub returns-in-Err-insert-clause-err : goal.returns-in-Err-insert-clause-err
returns-in-Err-insert-clause-err c = same_keeps _ _ refl c.in-Err-insert.ensures.err
