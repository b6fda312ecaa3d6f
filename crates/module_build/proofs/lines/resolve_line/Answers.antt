use Rattle.std.proofs.Common.{◌≡◌, ◌∙◌, ◌++◌, ℕ, List, ap}
use Rattle.ir_ast.specs.Insts.{Instruction}
use Rattle.ir_lines.specs.Faults.PointerCast.{is_cast}
use Rattle.ir_lines.specs.Modules.{instruction_said}
use Rattle.ir_lines.specs.Views.{said, seen_lines}
use Rattle.module_build.specs.Known.{known_in}
use Rattle.module_build.specs.declared.lost.Lost.{Lost}
use Rattle.module_build.specs.Lost.{tables_in, after_line, nothing_lost, miscounts_in}
use Rattle.module_build.proofs.KeptLines.{kept-inst, kept-number}
use Rattle.module_build.proofs.LostNotes.{notes-by}
use Rattle.module_build.proofs.lines.resolve_line.Goals as goal

pub returns-clause-insts : goal.returns-clause-insts
returns-clause-insts c =
    let made = instruction_said (known_in c.args.scope.now) (seen_lines c.args.behind.now) (said c.args.line.now.reading) in
    c.in_ok-instruction.ensures.insts ∙ ap (λ (more : List Instruction). c.args.insts.now.items ++ more) (kept-inst c.args.line.now.line made)

pub returns-clause-numbers : goal.returns-clause-numbers
returns-clause-numbers c =
    c.in_ok-keep_number.ensures
    ∙ ap (λ (more : List ℕ). c.args.numbers.now.items ++ more)
    (kept-number (known_in c.args.scope.now) c.args.line.now.line (seen_lines c.args.behind.now) (said c.args.line.now.reading))

pub returns-clause-noted : goal.returns-clause-noted
returns-clause-noted c =
    let form = c.args.scope.now.form in
    let tables = tables_in c.args.scope.now in
    let what = said c.args.line.now.reading in
    let is : c.instruction.new.lost ≡ after_line form tables nothing_lost what =
    c.in_ok-instruction.ensures.lost ∙ ap (λ (lost : Lost). after_line form tables lost what) c.nothing_lost-lost.ensures in
    notes-by c.args.line.now.line c.args.first.now.found c.note_tests.new.first.found
    c.tested.result.unknown c.tested.result.misspelled c.tested.result.cast c.tested.result.miscounted
    (after_line form tables nothing_lost what).unknown (after_line form tables nothing_lost what).misspelled (is_cast what) (miscounts_in form what)
    (c.tested.ensures.unknown ∙ ap (λ (lost : Lost). lost.unknown) is) (c.tested.ensures.misspelled ∙ ap (λ (lost : Lost). lost.misspelled) is)
    c.tested.ensures.cast c.tested.ensures.miscounted c.note_tests.ensures
