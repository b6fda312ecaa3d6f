use Rattle.ir_meaning.specs.Machines.{rest_of}
use Rattle.ir_meaning.proofs.CallLemmas.{jump_goes, jump_lost}
use Rattle.ir_meaning.proofs.machine.Machine.jump.Goals as goal

pub returns-in-None-clause-turned : goal.returns-in-None-clause-turned
returns-in-None-clause-turned c =
    jump_lost c.args.code.now c.args.plan.now c.args.bound c.args.self.now.stack (rest_of c.args.self.now) c.args.edge.now c.requires c.if-self-bound.false
    (rw c.spot-func.ensures at c.in-None.ensures)

pub returns-in_ok-arrive-in-Some-clause-turned : goal.returns-in_ok-arrive-in-Some-clause-turned
returns-in_ok-arrive-in-Some-clause-turned c =
    jump_goes c.args.code.now c.args.plan.now c.args.bound c.args.self.now.stack c.arrive.new.self (rest_of c.args.self.now) c.args.edge.now c.in-Some.segment c.requires c.if-self-bound.false
    (rw c.spot-func.ensures at c.in-Some.ensures) (rw (c.as_slice.ensures.value, c.spot-func.ensures) at c.in_ok-arrive-in-Some.ensures)
