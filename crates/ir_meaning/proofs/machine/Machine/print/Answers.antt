use Rattle.std.proofs.Common.{◌≡◌, List, map, ap, ◌∙◌}
use Rattle.ir_ast.specs.declared.ops.Operand.{Operand}
use Rattle.object_meaning.specs.Registers.{number_in, operand}
use Rattle.object_store.specs.declared.words.Word.{Word}
use Rattle.object_store.specs.Words.{datum}
use Rattle.ir_meaning.specs.Stacks.{Frames, passed_frame}
use Rattle.ir_meaning.specs.Machines.{rest_of}
use Rattle.ir_meaning.proofs.WordLemmas.{operand_is}
use Rattle.ir_meaning.proofs.CallLemmas.{print_is}
use Rattle.ir_meaning.proofs.machine.Machine.print.Goals as goal

pub returns-clause-turned : goal.returns-clause-turned
returns-clause-turned c =
    let now = c.args.self.now in let registers = now.stack.running.registers in let frames : Frames = now.stack in
    let word : c.number-number.result ≡ number_in (operand (map datum registers) c.args.segment.now.operands.items 0) =
    c.number-number.ensures ∙ ap (λ (word : Word). number_in (datum word)) c.operand.ensures ∙ ap number_in (operand_is registers c.as_slice.result.now 0)
    ∙ ap (λ (os : List Operand). number_in (operand (map datum registers) os 0)) c.as_slice.ensures.value in
    print_is c.args.code.now c.args.plan.now c.args.bound now.stack c.pass.new.self (rest_of now) c.args.segment.now c.number-number.result c.requires.stands word
    (c.in_ok-pass.ensures ∙ ap (λ (w : Word). let f : Frames = record frames { running = passed_frame frames.running c.args.segment.now.to w } in f) c.of.ensures)
