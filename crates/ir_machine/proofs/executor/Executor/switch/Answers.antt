use Rattle.std.proofs.Common.{◌≡◌, ℕ, List, map, drop, sym, ap, ◌∙◌}
use Rattle.ir_ast.specs.Objects.{Datum, number}
use Rattle.ir_ast.specs.declared.ops.Operand.{Operand}
use Rattle.object_meaning.specs.Effects.{Effect}
use Rattle.object_meaning.specs.Jumps.{jumped, label_at, case_taken}
use Rattle.object_meaning.specs.Calls.{stepped}
use Rattle.object_meaning.specs.Registers.{operand}
use Rattle.machine_meaning.specs.Machines.{Machine, lifted}
use Rattle.machine_meaning.specs.Words.{worded_operand}
use Rattle.ir_machine.specs.Executors.{machinery, seen}
use Rattle.ir_machine.proofs.StepLemmas.{does_as}
use Rattle.ir_machine.proofs.executor.Executor.switch.Goals as goal

pub returns : goal.returns
returns c =
    let now = c.args.self.now in let machine = seen now in let setting = (machinery c.args.program.now).setting in let inst = c.args.inst.now in
    let goes : ℕ → Effect Machine = λ label. lifted machine (stepped setting machine.state (jumped setting label)) in
    let label : c.label_at.result ≡ label_at inst.labels (case_taken (operand machine.state.running.registers (map worded_operand inst.operands) 0) (drop 1 (map worded_operand inst.operands))) =
    c.label_at.ensures ∙ ap (λ labels. label_at labels c.case_taken-taken.result) c.labels.ensures
    ∙ ap (label_at inst.labels) (c.case_taken-taken.ensures ∙ ap (λ (os : List Operand). case_taken (number c.word.result) (drop 1 (map worded_operand os))) c.operands.ensures
    ∙ ap (λ (d : Datum). case_taken d (drop 1 (map worded_operand inst.operands))) (sym c.word.ensures)) in
    does_as c.jump.new.self c.jump.result _ _ (ap goes label) c.jump.ensures
