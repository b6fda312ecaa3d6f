use Rattle.ir_meaning.specs.Machines.{rest_of}
use Rattle.ir_meaning.proofs.SegmentLemmas.{nowhere_at}
use Rattle.ir_meaning.proofs.machine.Machine.turn.Goals as goal

pub returns-in-None-clause-turned : goal.returns-in-None-clause-turned
returns-in-None-clause-turned c =
    nowhere_at c.args.code.now c.args.plan.now c.args.bound c.args.self.now.stack (rest_of c.args.self.now) (rw c.spot-spot.ensures at c.in-None.ensures)
