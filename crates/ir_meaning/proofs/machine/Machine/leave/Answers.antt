use Rattle.ir_meaning.specs.Machines.{rest_of}
use Rattle.ir_meaning.proofs.SegmentLemmas.{over_at}
use Rattle.ir_meaning.proofs.machine.Machine.leave.Goals as goal

pub returns-in-None-clause-turned : goal.returns-in-None-clause-turned
returns-in-None-clause-turned c =
    over_at c.args.code.now c.args.plan.now c.args.bound c.args.self.now.stack (rest_of c.args.self.now) c.args.segment.now c.requires.fits c.in-None.is
