use Rattle.std.proofs.Common.{◌≡◌, ℕ, ◌<◌, ◌≤◌, List, ◌++◌, ◌∷◌, [], length, map, set, sym, ap, subst, ◌∙◌, arith}
use Rattle.std.specs.Prelude.{Option, Some, None, slice_get}
use Rattle.ir_ast.specs.declared.ops.Operand.{Operand}
use Rattle.object_meaning.specs.Calls.{function_in}
use Rattle.object_meaning.specs.Registers.{operand}
use Rattle.object_store.specs.Words.{datum}
use Rattle.run_tasks.specs.declared.printing.Did.TheVariants.{GoesOn}
use Rattle.ir_meaning.specs.Stacks.{Frames}
use Rattle.ir_meaning.specs.Machines.{rest_of, exit_of, state_from, today, Turned}
use Rattle.ir_meaning.proofs.WordLemmas.{operand_is}
use Rattle.ir_meaning.proofs.CallLemmas.{start_many, start_goes}
use Rattle.ir_meaning.proofs.machine.Machine.start.Goals as goal

pub returns-then-len-clause-turned : goal.returns-then-len-clause-turned
returns-then-len-clause-turned c =
    let many : 64 ≤ length c.args.self.now.tasks.items = omega (arith, c.if-len.true, c.len.ensures) in
    start_many c.args.code.now c.args.plan.now c.args.bound c.args.self.now.stack (rest_of c.args.self.now) c.args.segment.now c.requires.stands many

pub returns-clause-turned : goal.returns-clause-turned
returns-clause-turned c =
    let code = c.args.code.now in let now = c.args.self.now in let others = rest_of now in let registers = now.stack.running.registers in
    let argument : datum c.operand-argument.result ≡ operand (map datum registers) c.args.segment.now.operands.items 1 =
    ap datum c.operand-argument.ensures ∙ operand_is registers c.as_slice-operands.result.now 1 ∙ ap (λ (os : List Operand). operand (map datum registers) os 1) c.as_slice-operands.ensures.value in
    let func : c.function_in-func.result ≡ function_in (slice_get c.args.segment.now.operands.items 0) =
    c.function_in-func.ensures ∙ ap (λ (os : List Operand). function_in (slice_get os 0)) c.as_slice-operands.ensures.value in
    let tasks : c.push.new.self.items ≡ set now.tasks.items now.task (Some now.stack) ++ None ∷ [] =
    c.in_ok-push.ensures.items
    ∙ ap (λ (ts : List (Option Frames)). ts ++ None ∷ []) (c.set_task.ensures ∙ ap (λ (fs : Frames). set now.tasks.items now.task (Some fs)) c.replace-waits.ensures.value) in
    let few : length now.tasks.items < 64 = omega (arith, c.if-len.false, c.len.ensures) in
    let number : c.len-task.result ≡ length now.tasks.items = omega (arith, c.len-task.ensures) in
    subst (λ (task : ℕ). Turned (today code c.args.plan.now c.args.bound) (exit_of code now) GoesOn (state_from code c.replace-waits.new.dest (record others { task = task; tasks = c.push.new.self.items }))) (sym number)
    (start_goes code c.args.plan.now c.args.bound now.stack c.replace-waits.new.dest others c.args.segment.now c.function_in-func.result c.registers-count.result c.operand-argument.result c.push.new.self.items
    c.requires.stands func argument c.registers-count.ensures.front c.registers-count.ensures.value (c.replace-waits.ensures.after ∙ c.in_ok-stack.ensures) tasks few)
