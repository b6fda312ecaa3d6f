use Rattle.std.proofs.Common.{◌≡◌, ◌∙◌, ◌+◌, ◌++◌, ℕ, List, length, ap, sym, arith}
use Rattle.std.specs.Prelude.{map}
use Rattle.std.proofs.lemmas.List.{length-map}
use Rattle.ir_reader.specs.declared.raw.NumberedReading.{NumberedReading}
use Rattle.ir_ast.specs.Insts.{Instruction}
use Rattle.ir_lines.specs.Modules.{instruction_said, insts_of, numbers_of}
use Rattle.ir_lines.specs.Views.{said, seen_line, seen_lines}
use Rattle.module_build.specs.Known.{known_in}
use Rattle.module_build.specs.Lost.{tables_in}
use Rattle.module_build.proofs.Founds.{notes-turn, notes-all}
use Rattle.text_resolve.specs.Lost.{LineLostAt}
use Rattle.text_resolve.proofs.BuiltText.{lined-more}
use Rattle.text_resolve.proofs.functions.insts.Goals as goal
use Rattle.list_laws.proofs.Places.{seen_at}

pub loop-i-preserved : goal.loop-i-preserved
loop-i-preserved c =
    let known = known_in c.args.scope.now in
    let line = c.index-lines-i.result in
    let made = instruction_said known (seen_lines c.behind.result.now) (said line.reading) in
    let is = ap (λ (ys : List NumberedReading). instruction_said known (seen_lines ys) (said line.reading)) c.behind.ensures in
    record {
      made = lined-more (λ (one : ℕ × Instruction). one.1) known c.args.lines.now c.loop-i.i line made c.loop-i.insts.items c.resolve_line.new.insts.items
          (insts_of known (seen_lines c.args.lines.now)) c.loop-i-test.true c.index-lines-i.is is c.in_ok-resolve_line.ensures.insts c.loop-i.invariant.made;
      numbered = lined-more (λ (one : ℕ × Instruction). one.0) known c.args.lines.now c.loop-i.i line made c.loop-i.numbers.items c.resolve_line.new.numbers.items
          (c.args.numbers.now.items ++ numbers_of known (seen_lines c.args.lines.now)) c.loop-i-test.true c.index-lines-i.is is c.in_ok-resolve_line.ensures.numbers
          c.loop-i.invariant.numbered;
      noted = notes-turn (LineLostAt c.args.scope.now.form (tables_in c.args.scope.now)) (seen_lines c.args.lines.now) c.loop-i.i (seen_line line)
          c.args.first.now.found c.loop-i.first.found c.resolve_line.new.first.found
          (seen_at seen_line c.args.lines.now c.loop-i.i line c.loop-i-test.true c.index-lines-i.is) c.loop-i.invariant.noted c.in_ok-resolve_line.ensures.noted;
    }

pub returns-clause-noted : goal.returns-clause-noted
returns-clause-noted c =
    let end : c.loop-i.i ≡ length c.args.lines.now = omega arith in
    notes-all (LineLostAt c.args.scope.now.form (tables_in c.args.scope.now)) (seen_lines c.args.lines.now) c.loop-i.i c.args.first.now.found c.loop-i.first.found
    (end ∙ sym (length-map c.args.lines.now seen_line)) c.loop-i.invariant.noted
