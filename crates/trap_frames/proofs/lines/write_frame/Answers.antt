use Rattle.std.proofs.Common.{◌≡◌, ◌∷◌, [], ◌∙◌, List, length, map, sym, ap, subst, arith, true≢false, vec_len, append-nil}
use Rattle.std.proofs.lemmas.Bool.{eq-eqb, eqb-true}
use Rattle.std.specs.List.{All, concat}
use Rattle.std.proofs.lemmas.List.Elements.{All-head}
use Rattle.std.proofs.lemmas.List.{nil_from_length}
use Rattle.tool_io.specs.Sink.{append_known}
use Rattle.tool_io.proofs.AppendLaws.{AppendsFront-same, OnErr-always}
use Rattle.piece_writer.specs.LinePuts.{IsShort, PutsLines, told_by}
use Rattle.piece_writer.proofs.LineLaws.{first_failed, first_none, first_same, puts_none, puts_one, puts_same}
use Rattle.frame_walk.specs.Maps.{deopt_places, pairs_of}
use Rattle.machine_meaning.specs.TrapLines.{frame_line, shown_at}
use Rattle.trap_frames.specs.declared.deopts.Shown.{Shown}
use Rattle.trap_frames.specs.DeoptLines.{deopt_line}
use Rattle.trap_frames.specs.Waiting.{line_with}
use Rattle.trap_frames.proofs.LineLemmas.{line_none, line_of}
use Rattle.trap_frames.proofs.lines.write_frame.Goals as goal

pub returns-in_err-deopt_line-clause-err : goal.returns-in_err-deopt_line-clause-err
returns-in_err-deopt_line-clause-err g c =
    let number = c.args.number in let name = c.args.name.now in
    let shown = map (shown_at (g.M.FrameMap.constants c.args.map.now) (g.H.Objects.stands c.args.objects.now) c.args.words.now (pairs_of (g.R.FrameRecord.entry c.args.one.now))) (deopt_places (g.R.FrameRecord.entry c.args.one.now)) in
    let items = c.fill_values.new.values.items in
    let some : items ≡ [] → ⊥ =
    λ none. true≢false (sym (c.is_empty.ensures ∙ eq-eqb (vec_len c.fill_values.new.values) 0 (omega (arith, c.fill_values.new.values.ok.0, ap length none))) ∙ c.if-is_empty.false) in
    let line = deopt_line number name c.as_slice-2.result.now in
    let is : frame_line number name shown ≡ line ∷ [] =
    line_of number name items shown some c.in_ok-fill_values.ensures ∙ ap (λ (values : List Shown). deopt_line number name values ∷ []) (sym c.as_slice-2.ensures.value) in
    let whole : line ≡ concat (frame_line number name shown) = sym (ap concat is ∙ append-nil line) in
    OnErr-always c.from_residual-in_err-deopt_line.result
    (AppendsFront-same c.in_err-deopt_line.ensures.err (concat (frame_line number name shown)) (sym whole))

pub returns-clause-ok : goal.returns-clause-ok
returns-clause-ok g c =
    let number = c.args.number in let name = c.args.name.now in
    let shown = map (shown_at (g.M.FrameMap.constants c.args.map.now) (g.H.Objects.stands c.args.objects.now) c.args.words.now (pairs_of (g.R.FrameRecord.entry c.args.one.now))) (deopt_places (g.R.FrameRecord.entry c.args.one.now)) in
    let items = c.fill_values.new.values.items in
    let some : items ≡ [] → ⊥ =
    λ none. true≢false (sym (c.is_empty.ensures ∙ eq-eqb (vec_len c.fill_values.new.values) 0 (omega (arith, c.fill_values.new.values.ok.0, ap length none))) ∙ c.if-is_empty.false) in
    let line = deopt_line number name c.as_slice-2.result.now in
    let is : frame_line number name shown ≡ line ∷ [] =
    line_of number name items shown some c.in_ok-fill_values.ensures ∙ ap (λ (values : List Shown). deopt_line number name values ∷ []) (sym c.as_slice-2.ensures.value) in
    let whole : line ≡ concat (frame_line number name shown) = sym (ap concat is ∙ append-nil line) in
    c.in_ok-deopt_line.ensures.ok ∙ ap (append_known (g.O.Sink.written c.args.out.now)) whole

pub returns-then-is_empty-clause-by_one_put : goal.returns-then-is_empty-clause-by_one_put
returns-then-is_empty-clause-by_one_put g c = λ short.
    let number = c.args.number in let name = c.args.name.now in
    let shown = map (shown_at (g.M.FrameMap.constants c.args.map.now) (g.H.Objects.stands c.args.objects.now) c.args.words.now (pairs_of (g.R.FrameRecord.entry c.args.one.now))) (deopt_places (g.R.FrameRecord.entry c.args.one.now)) in
    let items = c.fill_values.new.values.items in
    let old = told_by g.O.Sink.written g.O.Sink.puts c.args.out.now in
    let none : items ≡ [] = nil_from_length items (omega (arith, c.fill_values.new.values.ok.0, eqb-true (vec_len c.fill_values.new.values) 0 (sym c.is_empty.ensures ∙ c.if-is_empty.true))) in
    subst (PutsLines old old) (sym (line_none number name items shown none c.in_ok-fill_values.ensures)) (puts_none old)

pub returns-clause-by_one_put : goal.returns-clause-by_one_put
returns-clause-by_one_put g c = λ short.
    let number = c.args.number in let name = c.args.name.now in
    let shown = map (shown_at (g.M.FrameMap.constants c.args.map.now) (g.H.Objects.stands c.args.objects.now) c.args.words.now (pairs_of (g.R.FrameRecord.entry c.args.one.now))) (deopt_places (g.R.FrameRecord.entry c.args.one.now)) in
    let items = c.fill_values.new.values.items in
    let some : items ≡ [] → ⊥ =
    λ none. true≢false (sym (c.is_empty.ensures ∙ eq-eqb (vec_len c.fill_values.new.values) 0 (omega (arith, c.fill_values.new.values.ok.0, ap length none))) ∙ c.if-is_empty.false) in
    let line = deopt_line number name c.as_slice-2.result.now in
    let is : frame_line number name shown ≡ line ∷ [] =
    line_of number name items shown some c.in_ok-fill_values.ensures ∙ ap (λ (values : List Shown). deopt_line number name values ∷ []) (sym c.as_slice-2.ensures.value) in
    let whole : line ≡ concat (frame_line number name shown) = sym (ap concat is ∙ append-nil line) in
    let old = told_by g.O.Sink.written g.O.Sink.puts c.args.out.now in
    let new = told_by g.O.Sink.written g.O.Sink.puts c.deopt_line.new.out in
    puts_same old new (line ∷ []) (frame_line number name shown) (sym is)
    (puts_one old new line c.in_ok-deopt_line.ensures.ok (c.in_ok-deopt_line.ensures.by_one_put (All-head IsShort line [] (subst (All IsShort) is short))))

pub returns-in_err-deopt_line-clause-cut : goal.returns-in_err-deopt_line-clause-cut
returns-in_err-deopt_line-clause-cut g c = λ short.
    let number = c.args.number in let name = c.args.name.now in
    let shown = map (shown_at (g.M.FrameMap.constants c.args.map.now) (g.H.Objects.stands c.args.objects.now) c.args.words.now (pairs_of (g.R.FrameRecord.entry c.args.one.now))) (deopt_places (g.R.FrameRecord.entry c.args.one.now)) in
    let items = c.fill_values.new.values.items in
    let some : items ≡ [] → ⊥ =
    λ none. true≢false (sym (c.is_empty.ensures ∙ eq-eqb (vec_len c.fill_values.new.values) 0 (omega (arith, c.fill_values.new.values.ok.0, ap length none))) ∙ c.if-is_empty.false) in
    let line = deopt_line number name c.as_slice-2.result.now in
    let is : frame_line number name shown ≡ line ∷ [] =
    line_of number name items shown some c.in_ok-fill_values.ensures ∙ ap (λ (values : List Shown). deopt_line number name values ∷ []) (sym c.as_slice-2.ensures.value) in
    let whole : line ≡ concat (frame_line number name shown) = sym (ap concat is ∙ append-nil line) in
    let old = told_by g.O.Sink.written g.O.Sink.puts c.args.out.now in
    let new = told_by g.O.Sink.written g.O.Sink.puts c.deopt_line.new.out in
    OnErr-always c.from_residual-in_err-deopt_line.result
    (first_same old new (line ∷ []) (frame_line number name shown) (sym is)
    (first_failed old new line [] c.in_err-deopt_line.ensures.err (c.in_err-deopt_line.ensures.unput (All-head IsShort line [] (subst (All IsShort) is short)))))

pub returns-in_err-fill_bases-clause-cut : goal.returns-in_err-fill_bases-clause-cut
returns-in_err-fill_bases-clause-cut g c = λ short.
    OnErr-always c.from_residual.result (first_none (told_by g.O.Sink.written g.O.Sink.puts c.args.out.now)
    (line_with (g.M.FrameMap.constants c.args.map.now) (g.H.Objects.stands c.args.objects.now) c.args.words.now (g.R.FrameRecord.entry c.args.one.now) c.args.number c.args.name.now))

pub returns-in_err-fill_values-clause-cut : goal.returns-in_err-fill_values-clause-cut
returns-in_err-fill_values-clause-cut g c = λ short.
    OnErr-always c.from_residual-in_err-fill_values.result (first_none (told_by g.O.Sink.written g.O.Sink.puts c.args.out.now)
    (line_with (g.M.FrameMap.constants c.args.map.now) (g.H.Objects.stands c.args.objects.now) c.args.words.now (g.R.FrameRecord.entry c.args.one.now) c.args.number c.args.name.now))
