use Rattle.std.proofs.Common.{◌+◌, ◌<◌, length, map, refl, ap, arith}
use Rattle.ir_ast.specs.Objects.{number}
use Rattle.object_meaning.specs.Lines.{following}
use Rattle.object_meaning.specs.Registers.{value}
use Rattle.machine_meaning.specs.Words.{worded_operand}
use Rattle.machine_lines.specs.Lines.{line_of, lines_left}
use Rattle.ir_machine.specs.Executors.{machinery, seen, told}
use Rattle.ir_machine.proofs.CallLemmas.{enter_goes, enter_out}
use Rattle.std.proofs.Common.{reverse}
use Rattle.std.proofs.lemmas.List.{length-map, length-reverse}
use Rattle.machine_frames.specs.Frames.{frame_of, below_of}
use Rattle.ir_machine.proofs.executor.Executor.enter.Goals as goal

pub returns-then-self-bound : goal.returns-then-self-bound
returns-then-self-bound c =
    let now = c.args.self.now in let machine = seen now in let inst = c.args.inst.now in let next = now.run.frame.next in
    let line = line_of next inst in let rest = lines_left (following next inst) c.args.rest.insts.now in let all = machinery c.args.program.now in
    ap told (enter_out all machine line rest c.args.func (map worded_operand c.args.operands.now) c.if-self-bound.true)

pub returns : goal.returns
returns c =
    let now = c.args.self.now in let machine = seen now in let inst = c.args.inst.now in let next = now.run.frame.next in
    let line = line_of next inst in let rest = lines_left (following next inst) c.args.rest.insts.now in let all = machinery c.args.program.now in
    let task = c.args.self.now.run in
    let few : length (below_of task) + 1 < 4096 = omega (arith, c.len.ensures, length-map (reverse task.below.items) frame_of, length-reverse task.below.items) in
    ap told (enter_goes all machine line rest c.args.func (map worded_operand c.args.operands.now) (map (value (map number now.run.frame.registers.items)) (map worded_operand c.args.operands.now)) _ _ c.address_behind-address.result _
    c.if-self-bound.false few refl c.in_ok-call.ensures.frame c.in_ok-call.ensures.below
    (c.address_behind-address.ensures c.args.program.now.map.whole c.args.program.now.plan.now c.args.program.now.bound) c.in_ok-call.ensures.stack)
