use Rattle.std.proofs.Common.{◌<◌, ◌≤◌, ◌+◌, length, map, arith}
use Rattle.std.proofs.lemmas.List.{length-map}
use Rattle.waiting_frames.specs.Frames.{exit_frame}
use Rattle.ir_meaning.specs.Machines.{rest_of}
use Rattle.ir_meaning.proofs.CallLemmas.{enter_out, enter_deep, enter_goes}
use Rattle.ir_meaning.proofs.machine.Machine.enter.Goals as goal

pub returns-then-self-bound-clause-turned : goal.returns-then-self-bound-clause-turned
returns-then-self-bound-clause-turned c =
    enter_out c.args.code.now c.args.plan.now c.args.bound c.args.self.now.stack (rest_of c.args.self.now) c.args.segment.now c.args.func c.requires.stands c.if-self-bound.true

pub returns-then-waiting-clause-turned : goal.returns-then-waiting-clause-turned
returns-then-waiting-clause-turned c =
    let same = length-map c.args.self.now.stack.below (exit_frame c.args.code.now) in
    let deep : 4096 ≤ length (map (exit_frame c.args.code.now) c.args.self.now.stack.below) + 1 = omega (arith, same, c.waiting.ensures) in
    enter_deep c.args.code.now c.args.plan.now c.args.bound c.args.self.now.stack (rest_of c.args.self.now) c.args.segment.now c.args.func c.requires.stands c.if-self-bound.false deep

pub returns-clause-turned : goal.returns-clause-turned
returns-clause-turned c =
    let same = length-map c.args.self.now.stack.below (exit_frame c.args.code.now) in
    let few : length (map (exit_frame c.args.code.now) c.args.self.now.stack.below) + 1 < 4096 = omega (arith, same, c.waiting.ensures) in
    enter_goes c.args.code.now c.args.plan.now c.args.bound c.args.self.now.stack c.enter.new.self (rest_of c.args.self.now) c.args.segment.now c.args.func c.registers-count.result
    c.requires.stands c.registers-count.ensures.front c.registers-count.ensures.value c.if-self-bound.false few (rw c.as_slice.ensures.value at c.in_ok-enter.ensures)
