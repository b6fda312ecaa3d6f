use Rattle.std.proofs.Common.{sym}
use Rattle.poll_place.proofs.PlacedLemmas.{none_back}
use Rattle.poll_place.proofs.blocks.ends_back.Goals as goal

pub returns-in-Some : goal.returns-in-Some
returns-in-Some c = λ not.
    none_back c.args.number c.args.insts.now c.in-Some.inst.now c.requires (sym (rw c.in-Some.is at c.last.ensures.value)) (rw c.retreats.ensures at not)
