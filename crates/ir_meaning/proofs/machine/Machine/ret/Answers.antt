use Rattle.std.proofs.Common.{◌≡◌, ◌+◌, List, length, map, ap, ◌∙◌, arith}
use Rattle.std.proofs.lemmas.Result.{IfOk-weaker}
use Rattle.ir_ast.specs.declared.ops.Operand.{Operand}
use Rattle.object_meaning.specs.Effects.{goes_on}
use Rattle.object_meaning.specs.Registers.{operand}
use Rattle.object_meaning.specs.Tasks.{task_ended}
use Rattle.object_store.specs.Words.{datum}
use Rattle.run_tasks.specs.declared.printing.Did.{Did}
use Rattle.ir_meaning.specs.Machines.{rest_of, exit_from, exit_of, state_of, today, Turned, Does}
use Rattle.ir_meaning.proofs.WordLemmas.{operand_is}
use Rattle.ir_meaning.proofs.MachineLemmas.{turned_does, turned_goes}
use Rattle.ir_meaning.proofs.CallLemmas.{ret_out, ret_ended, ret_more}
use Rattle.ir_meaning.proofs.machine.Machine.ret.Goals as goal

pub returns-then-self-bound-clause-turned : goal.returns-then-self-bound-clause-turned
returns-then-self-bound-clause-turned c =
    ret_out c.args.code.now c.args.plan.now c.args.bound c.args.self.now.stack (rest_of c.args.self.now) c.args.segment.now c.args.width c.requires.stands c.if-self-bound.true

pub returns-then-waiting-eq0-clause-turned : goal.returns-then-waiting-eq0-clause-turned
returns-then-waiting-eq0-clause-turned c =
    let code = c.args.code.now in let now = c.args.self.now in let registers = now.stack.running.registers in
    let setting = today code c.args.plan.now c.args.bound in
    let answer : datum c.operand-answer.result ≡ operand (map datum registers) c.args.segment.now.operands.items 0 =
    ap datum c.operand-answer.ensures ∙ operand_is registers c.as_slice.result.now 0 ∙ ap (λ (os : List Operand). operand (map datum registers) os 0) c.as_slice.ensures.value in
    let none : length now.stack.below ≡ 0 = omega (arith, c.waiting.ensures) in
    let ended = ret_ended code c.args.plan.now c.args.bound now.stack (rest_of now) c.args.segment.now c.args.width (datum c.operand-answer.result) c.requires.stands c.if-self-bound.false answer none in
    IfOk-weaker c.end_task.result
    (λ (did : Did). Does did (task_ended (exit_from code now.stack (record (rest_of now) { steps = now.steps + 1 })) c.args.width (datum c.operand-answer.result)) (state_of code c.end_task.new.self))
    (λ (did : Did). Turned setting (exit_of code now) did (state_of code c.end_task.new.self))
    (λ did does. turned_does setting (exit_of code now) (state_of code c.end_task.new.self) did
    (task_ended (exit_from code now.stack (record (rest_of now) { steps = now.steps + 1 })) c.args.width (datum c.operand-answer.result)) ended does) c.end_task.ensures.effect

pub returns-clause-turned : goal.returns-clause-turned
returns-clause-turned c =
    let code = c.args.code.now in let now = c.args.self.now in let registers = now.stack.running.registers in
    let setting = today code c.args.plan.now c.args.bound in
    let answer : datum c.operand-answer.result ≡ operand (map datum registers) c.args.segment.now.operands.items 0 =
    ap datum c.operand-answer.ensures ∙ operand_is registers c.as_slice.result.now 0 ∙ ap (λ (os : List Operand). operand (map datum registers) os 0) c.as_slice.ensures.value in
    turned_goes setting (exit_of code now) (state_of code c.answered.new.self)
    (ap goes_on c.in_ok-answered.ensures.resumes
    ∙ ret_more code c.args.plan.now c.args.bound now.stack c.leave.new.self (rest_of now) c.args.segment.now c.args.width (datum c.operand-answer.result) c.requires.stands c.if-self-bound.false answer c.leave.ensures)
