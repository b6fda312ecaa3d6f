use Rattle.ir_meaning.specs.Machines.{rest_of}
use Rattle.ir_meaning.proofs.CallLemmas.{stop_out, stop_traps}
use Rattle.ir_meaning.proofs.machine.Machine.unreachable.Goals as goal

pub returns-then-self-bound-clause-turned : goal.returns-then-self-bound-clause-turned
returns-then-self-bound-clause-turned c =
    stop_out c.args.code.now c.args.plan.now c.args.bound c.args.self.now.stack (rest_of c.args.self.now) c.args.segment.now c.requires.stands c.if-self-bound.true

pub returns-else-self-bound-clause-turned : goal.returns-else-self-bound-clause-turned
returns-else-self-bound-clause-turned c =
    stop_traps c.args.code.now c.args.plan.now c.args.bound c.args.self.now.stack (rest_of c.args.self.now) c.args.segment.now c.requires.stands c.if-self-bound.false
