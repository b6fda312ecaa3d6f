use Rattle.std.proofs.Common.{◌≡◌, ◌∙◌, ◌+◌, ap, [], ◌∷◌, ◌++◌, take}
use Rattle.std.proofs.lemmas.List.{map-append}
use Rattle.ir_lines.specs.Views.{seen_line, seen_lines}
use Rattle.text_resolve.proofs.OuterLemmas.{outer-more}
use Rattle.text_resolve.proofs.tops.note_lines.Goals as goal
use Rattle.list_laws.proofs.Places.{take_item}

pub loop-line-preserved : goal.loop-line-preserved
loop-line-preserved c =
    let i = c.loop-line.line-index in
    let lines = c.args.lines.now in
    let one = c.line-item.result in
    let more : seen_lines (take (i + 1) lines) ≡ seen_lines (take i lines) ++ seen_line one ∷ []
    = ap seen_lines (take_item lines i one c.loop-line-test.true c.line-item.is) ∙ map-append seen_line (take i lines) (one ∷ []) in
    outer-more c.args.form c.args.top.now.functions c.args.top.now.layouts (seen_lines (take i lines)) (seen_lines (take (i + 1) lines)) (seen_line one)
    c.args.first.now.found c.loop-line.first.found c.note_line.new.first.found more c.loop-line.invariant c.note_line.ensures
