use Rattle.std.proofs.Common.{◌≡◌, ◌∙◌, ◌+◌, ap, subst, List, [], ◌∷◌, ◌++◌, take}
use Rattle.std.proofs.lemmas.List.{map-append, take_all}
use Rattle.ir_reader.specs.declared.raw.NumberedReading.{NumberedReading}
use Rattle.ir_lines.specs.Notes.{Notes}
use Rattle.ir_lines.specs.Sections.{layouts_of, heads_of}
use Rattle.ir_lines.specs.Views.{seen_line, seen_lines}
use Rattle.ir_lines.proofs.NoteLemmas.{Either}
use Rattle.ir_lines.proofs.TableLemmas.{Tops, tops-none, tops-more, again-noted, LayoutAgain, HeadAgain}
use Rattle.ir_lines.proofs.scope.Top.of.Goals as goal
use Rattle.list_laws.proofs.Places.{take_item}

pub loop-line-init : goal.loop-line-init
loop-line-init c =
    let t = tops-none
    (record { layouts = c.new.result; fields = c.new-2.result; heads = c.new-3.result; head_list = c.new-4.result; functions = c.new-5.result })
    c.args.first.now.found c.new.ensures c.new-2.ensures.items c.new-3.ensures c.new-4.ensures.items c.new-5.ensures in
    record { is = t.is; noted = t.noted }

pub loop-line-preserved : goal.loop-line-preserved
loop-line-preserved c =
    let i = c.loop-line.line-index in
    let lines = c.args.lines.now in
    let one = c.line-item.result in
    let more : seen_lines (take (i + 1) lines) ≡ seen_lines (take i lines) ++ seen_line one ∷ []
    = ap seen_lines (take_item lines i one c.loop-line-test.true c.line-item.is) ∙ map-append seen_line (take i lines) (one ∷ []) in
    let before : Tops (seen_lines (take i lines)) c.loop-line.top c.args.first.now.found c.loop-line.first.found
    = record { is = c.loop-line.invariant.is; noted = c.loop-line.invariant.noted } in
    let t = tops-more (seen_lines (take i lines)) (seen_lines (take (i + 1) lines)) (seen_line one) c.loop-line.top c.add_layout.new.self
    c.add_head.new.self c.args.first.now.found c.loop-line.first.found c.add_layout.new.first.found c.add_head.new.first.found more before
    c.in_ok-add_layout.ensures.added c.in_ok-add_layout.ensures.noted c.in_ok-add_head.ensures.added c.in_ok-add_head.ensures.noted in
    record { is = t.is; noted = t.noted }

pub returns-clause-noted : goal.returns-clause-noted
returns-clause-noted c =
    again-noted (seen_lines c.args.lines.now) c.args.first.now.found c.loop-line.first.found
    (subst (λ (ls : List NumberedReading). Notes c.args.first.now.found c.loop-line.first.found
    (Either (LayoutAgain (layouts_of (seen_lines ls))) (HeadAgain (heads_of (seen_lines ls)))))
    (take_all c.loop-line.line-index c.args.lines.now c.loop-line-test.false) c.loop-line.invariant.noted)
