use Rattle.std.proofs.Common.{◌≡◌, ℕ, List, length, map, drop, sym, ap, subst, ◌∙◌, arith}
use Rattle.std.proofs.lemmas.List.{with_items_is}
use Rattle.ir_ast.specs.Insts.{Instruction}
use Rattle.ir_ast.specs.Objects.{number}
use Rattle.machine_meaning.specs.Machines.{Machine}
use Rattle.machine_lines.specs.Going.{GoesOver, stood}
use Rattle.machine_lines.specs.Lines.{lines_left}
use Rattle.ir_machine.specs.Executors.{machinery, seen}
use Rattle.ir_machine.proofs.executor.Executor.go_over_lines.Goals as goal

pub returns-clause-over : goal.returns-clause-over
returns-clause-over c =
    let now = c.args.self.now in let all = machinery c.args.program.now in let next = c.go_over-count.result.1 in
    let registers = c.go_over-count.new.registers in let later = c.go_over-count.new.heap in
    let kept : length registers ≡ now.run.frame.registers.len = omega (arith, c.go_over-count.auto.registers, c.as_mut_slice.ensures.len) in
    let layouts : c.layouts-layouts.result.now ≡ all.setting.layouts = rw c.module.ensures at c.layouts-layouts.ensures.value in
    subst (λ (m : Machine). GoesOver all (seen now) m)
    (ap (λ (left : List Instruction). stood (seen now) (lines_left next left) (map number registers) later) (sym c.behind-self.ensures)
    ∙ ap (λ (rs : List ℕ). stood (seen now) (lines_left next c.behind-self.result.insts.now) (map number rs) later) (sym (with_items_is now.run.frame.registers registers kept)))
    (subst (λ (rs : List ℕ). GoesOver all (stood (seen now) (lines_left now.run.frame.next now.run.frame.rest.insts.now) (map number rs) now.heap)
    (stood (seen now) (lines_left next (drop c.go_over-count.result.0 now.run.frame.rest.insts.now)) (map number registers) later)) c.as_mut_slice.ensures.value
    (c.go_over-count.ensures.goes all (seen now) layouts))
