use Rattle.std.proofs.Common.{◌≡◌, ◌∙◌, ◌+◌, ap, [], ◌∷◌, ◌++◌, take}
use Rattle.std.proofs.lemmas.List.{map-append}
use Rattle.ir_lines.specs.Statements.{Line}
use Rattle.ir_lines.specs.Parts.{gives}
use Rattle.ir_lines.specs.Sections.{result_named}
use Rattle.ir_lines.specs.Again.{results_of}
use Rattle.ir_lines.specs.Views.{said, seen_line, seen_lines}
use Rattle.ir_lines.proofs.TableLemmas.{Values, values-none, values-more, flat_map-push}
use Rattle.ir_lines.proofs.scope.Local.add_results.Goals as goal
use Rattle.list_laws.proofs.Places.{take_item}

pub loop-line-init : goal.loop-line-init
loop-line-init c =
    let v = values-none c.args.form c.args.self.now c.args.first.now.found in
    record { added = v.added; noted = v.noted }

pub loop-line-preserved : goal.loop-line-preserved
loop-line-preserved c =
    let i = c.loop-line.line-index in
    let lines = c.args.lines.now in
    let one = c.line-item.result in
    let more : results_of (seen_lines (take (i + 1) lines)) ≡ results_of (seen_lines (take i lines)) ++ result_named one.line (gives (said one.reading))
    = ap (λ ls. results_of (seen_lines ls)) (take_item lines i one c.loop-line-test.true c.line-item.is)
    ∙ ap results_of (map-append seen_line (take i lines) (one ∷ []))
    ∙ flat_map-push (λ (l : Line). result_named l.number (gives l.says)) (seen_lines (take i lines)) (seen_line one) in
    let before : Values c.args.form c.args.self.now c.loop-line.self c.args.first.now.found c.loop-line.first.found (results_of (seen_lines (take i lines)))
    = record { added = c.loop-line.invariant.added; noted = c.loop-line.invariant.noted } in
    let v = values-more c.args.form c.args.self.now c.loop-line.self c.add_result.new.self c.args.first.now.found c.loop-line.first.found
    c.add_result.new.first.found (results_of (seen_lines (take i lines))) (result_named one.line (gives (said one.reading)))
    (results_of (seen_lines (take (i + 1) lines))) more before c.in_ok-add_result.ensures.added c.in_ok-add_result.ensures.noted in
    record { added = v.added; noted = v.noted }
