use Rattle.std.proofs.Common.{ℕ, ◌+◌, List, sym, ap, ◌∙◌}
use Rattle.std.specs.Prelude.{Option}
use Rattle.std.specs.List.{position}
use Rattle.std.specs.Option.{option_map_or}
use Rattle.ir_ast.specs.declared.ops.Operand.{Operand}
use Rattle.object_meaning.specs.Jumps.{is_case}
use Rattle.machine_meaning.specs.Words.{worded_operand}
use Rattle.machine_lines.proofs.TargetLemmas.{cases_are}
use Rattle.machine_lines.proofs.targets.case_taken.Goals as goal

pub returns-in-None : goal.returns-in-None
returns-in-None c =
    let found = cases_are c.args.word c.args.operands.now
    ∙ sym (c.in-None.ensures.value ∙ ap (λ (cases : List Operand). position (λ one. is_case c.args.word (worded_operand one)) cases) c.cases_of.ensures) in
    sym (ap (λ (place : Option ℕ). option_map_or (λ n. n + 1) place 0) found)

pub returns-in-Some : goal.returns-in-Some
returns-in-Some c =
    let found = cases_are c.args.word c.args.operands.now
    ∙ sym (c.in-Some.ensures.value ∙ ap (λ (cases : List Operand). position (λ one. is_case c.args.word (worded_operand one)) cases) c.cases_of.ensures) in
    sym (ap (λ (place : Option ℕ). option_map_or (λ n. n + 1) place 0) found)
