use Rattle.std.proofs.Common.{◌+◌, ◌<◌, length, map, refl, reverse, sym, arith}
use Rattle.std.proofs.lemmas.List.{length-map, length-reverse}
use Rattle.std.proofs.lemmas.Result.{on_ok_weaker}
use Rattle.ir_ast.specs.Objects.{number}
use Rattle.object_meaning.specs.Lines.{following}
use Rattle.object_meaning.specs.Registers.{value}
use Rattle.machine_meaning.specs.Words.{worded_operand}
use Rattle.machine_lines.specs.Lines.{line_of, lines_left}
use Rattle.machine_frames.specs.Frames.{frame_of, below_of}
use Rattle.machine_frames.specs.Tasks.{Enters}
use Rattle.ir_machine.specs.Executors.{machinery, seen}
use Rattle.ir_machine.proofs.CallLemmas.{enter_goes}
use Rattle.ir_machine.proofs.executor.Executor.go_in.Goals as goal

pub returns : goal.returns
returns c =
    let now = c.args.self.now in let machine = seen now in let inst = c.args.inst.now in let next = now.run.frame.next in
    let line = line_of next inst in let rest = lines_left (following next inst) c.args.rest.insts.now in let all = machinery c.args.program.now in
    let task = c.args.self.now.run in let operands = map worded_operand c.args.operands.now in
    let arguments = map (value (map number now.run.frame.registers.items)) operands in
    let few : length (below_of task) + 1 < 4096 = omega (arith, c.requires.few, length-map (reverse task.below.items) frame_of, length-reverse task.below.items) in
    on_ok_weaker c.call.result
    (λ (e : Enters c.args.program.now.code c.args.func arguments c.address_behind-address.result task c.call.new.self).
    sym (enter_goes all machine line rest c.args.func operands arguments _ _ c.address_behind-address.result _ c.requires.left few refl e.frame e.below
    (c.address_behind-address.ensures c.args.program.now.map.whole c.args.program.now.plan.now c.args.program.now.bound) e.stack)) c.call.ensures
