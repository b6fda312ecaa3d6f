use Rattle.std.proofs.Common.{◌≡◌, ◌∙◌, ◌+◌, ◌≤◌, ◌++◌, true, length, take, drop, ap, sym, arith}
use Rattle.std.proofs.lemmas.List.{length-map}
use Rattle.list_laws.proofs.Places.{drop_item, seen_at}
use Rattle.ir_lines.specs.Sections.{is_case, cases_of}
use Rattle.ir_lines.specs.Views.{said, seen_line, seen_lines}
use Rattle.module_build.proofs.Founds.{notes-turn, notes-all}
use Rattle.text_resolve.proofs.CaseLines.{IsCaseAt, case-at, cases-more, cases-stop, cases-end, not-case}
use Rattle.module_build.proofs.CaseLemmas.{moved}
use Rattle.text_resolve.specs.Lost.{OtherWidthAt}
use Rattle.text_resolve.proofs.RowNotes.{numbers_of, case-more, case-stop, case-end, notes-width}
use Rattle.text_resolve.proofs.bodies.note_cases.Goals as goal

pub returns-in_default : goal.returns-in_default
returns-in_default c =
    let lines = seen_lines c.args.behind.now in
    let i = c.loop-line.line-index in
    let at = seen_at seen_line c.args.behind.now i c.line-item.result c.loop-line-test.true c.line-item.is in
    let stop = not-case c.line-item.result.reading c.in_default.not-Case in
    record {
      row = case-stop c.args.behind.now i c.line-item.result c.loop-line.row.items (c.args.row.now.items ++ numbers_of (cases_of lines))
          c.loop-line-test.true c.line-item.is stop c.loop-line.invariant.row;
      noted = notes-all (OtherWidthAt c.args.width.bits) (cases_of lines) i c.args.first.now.found c.loop-line.first.found
          (cases-stop lines i (seen_line c.line-item.result) at stop c.loop-line.invariant.cases) c.loop-line.invariant.noted;
    }

pub returns : goal.returns
returns c =
    let lines = seen_lines c.args.behind.now in
    let i = c.loop-line.line-index in
    let end : i ≡ length c.args.behind.now = omega arith in
    let past : length c.args.behind.now ≤ i = omega (arith, end) in
    record {
      row = case-end c.args.behind.now i c.loop-line.row.items (c.args.row.now.items ++ numbers_of (cases_of lines)) past c.loop-line.invariant.row;
      noted = notes-all (OtherWidthAt c.args.width.bits) (cases_of lines) i c.args.first.now.found c.loop-line.first.found
          (cases-end lines i (end ∙ sym (length-map c.args.behind.now seen_line)) c.loop-line.invariant.cases) c.loop-line.invariant.noted;
    }

pub loop-line-preserved : goal.loop-line-preserved
loop-line-preserved c =
    let lines = seen_lines c.args.behind.now in
    let i = c.loop-line.line-index in
    let l = seen_line c.line-item.result in
    let at = seen_at seen_line c.args.behind.now i c.line-item.result c.loop-line-test.true c.line-item.is in
    let is : is_case l.says ≡ true = ap (λ r. is_case (said r)) c.in-Case.is in
    let here : IsCaseAt lines i l = case-at lines i l at is c.loop-line.invariant.cases in
    record {
      cases = cases-more lines i l at is c.loop-line.invariant.cases;
      row = moved _ _ _ _ _ _ c.in_ok-push.ensures.items
          (ap (λ ys. numbers_of (cases_of (seen_lines ys))) (drop_item c.args.behind.now i c.line-item.result c.loop-line-test.true c.line-item.is)
          ∙ case-more c.line-item.result (seen_lines (drop (i + 1) c.args.behind.now)) c.in-Case.case_width c.in-Case.value c.in-Case.label c.in-Case.is)
          c.loop-line.invariant.row;
      noted = notes-turn (OtherWidthAt c.args.width.bits) (cases_of lines) i l c.args.first.now.found c.loop-line.first.found c.note_if.new.self.found
          here.at c.loop-line.invariant.noted
          (notes-width c.args.width.bits c.in-Case.case_width c.in-Case.value c.in-Case.label c.is_other.result (take i (cases_of lines)) c.line-item.result
          (drop (i + 1) (cases_of lines)) c.loop-line.first.found c.note_if.new.self.found c.in-Case.is c.is_other.ensures c.note_if.ensures);
    }
