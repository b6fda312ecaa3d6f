use Rattle.std.proofs.Common.{[], ◌∷◌, ◌+◌, drop, ap, refl, subst, sym, arith}
use Rattle.std.proofs.lemmas.List.Elements.{All-head}
use Rattle.std.proofs.lemmas.Result.{err_from_is_err_and}
use Rattle.tool_io.proofs.AppendLaws.{append_known-nil, OnErr-always}
use Rattle.piece_writer.specs.LinePuts.{IsShort, told_by}
use Rattle.piece_writer.proofs.LineLaws.{PutsBefore, before_end, before_failed, before_next, before_short, before_start, before_stopped, first_failed, puts_one}
use Rattle.run_texts.specs.RunTexts.{layout_name, place_lines}
use Rattle.tool_report.specs.RunLines.{place_line}
use Rattle.moving_heap.specs.declared.stands.Stand.{Stand}
use Rattle.moving_heap.specs.Contents.{shape_of}
use Rattle.run_traces.proofs.WritingLemmas.{found, missing, none_filled, none_left, places_end, places_front, places_more, places_next, places_stop}
use Rattle.run_traces.proofs.writing.write_places.Goals as goal

pub loop-place-init : goal.loop-place-init
loop-place-init g c = record {
  written = record { first = []; written = sym (append_known-nil (g.O.Sink.written c.args.out.now)); rest = refl };
  puts = λ short. before_start (told_by g.O.Sink.written g.O.Sink.puts c.args.out.now) (place_lines c.args.layouts.now c.args.heap.now.stands c.args.heap.now.contents);
  count = omega arith;
}

pub returns-in_default-clause-ok : goal.returns-in_default-clause-ok
returns-in_default-clause-ok g c =
    let heap = c.args.heap.now in
    places_end c.args.layouts.now heap.stands heap.contents c.loop-place.place (g.O.Sink.written c.args.out.now) (g.O.Sink.written c.loop-place.out) (g.O.Sink.written c.loop-place.out)
    c.loop-place.invariant.written (missing (λ (stand : Stand). stand.address) heap.stands c.loop-place.place c.in_default.ensures)

pub returns-in_default-shape-clause-ok : goal.returns-in_default-shape-clause-ok
returns-in_default-shape-clause-ok g c =
    let heap = c.args.heap.now in
    places_stop c.args.layouts.now heap.stands heap.contents c.loop-place.place (g.O.Sink.written c.args.out.now) (g.O.Sink.written c.loop-place.out) (g.O.Sink.written c.loop-place.out)
    c.loop-place.invariant.written (missing shape_of heap.contents c.loop-place.place c.in_default-shape.ensures)

pub returns-in_err-place_line-clause-err : goal.returns-in_err-place_line-clause-err
returns-in_err-place_line-clause-err g c =
    let heap = c.args.heap.now in let place = c.loop-place.place in let layouts = c.args.layouts.now in
    let name = ap (λ name. place_line (place + 1) name c.in-Some-shape.count c.in-Some.address) c.layout_name.ensures in
    let p = err_from_is_err_and c.from_residual.result c.from_residual.ensures.1 in
    rw p.1 (places_front layouts heap.stands heap.contents place (g.O.Sink.written c.args.out.now) (g.O.Sink.written c.loop-place.out) (g.O.Sink.written c.place_line.new.out)
    c.loop-place.invariant.written c.requires c.in-Some.address (found (λ (stand : Stand). stand.address) heap.stands place c.in-Some.address c.in-Some.ensures)
    c.in-Some-shape.layout c.in-Some-shape.count (found shape_of heap.contents place (c.in-Some-shape.layout, c.in-Some-shape.count) c.in-Some-shape.ensures)
    (rw name at c.in_err-place_line.ensures.err))

pub loop-place-preserved : goal.loop-place-preserved
loop-place-preserved g c =
    let heap = c.args.heap.now in let place = c.loop-place.place in let layouts = c.args.layouts.now in
    let name = ap (λ name. place_line (place + 1) name c.in-Some-shape.count c.in-Some.address) c.layout_name.ensures in
    record {
      written = places_more layouts heap.stands heap.contents place (g.O.Sink.written c.args.out.now) (g.O.Sink.written c.loop-place.out) (g.O.Sink.written c.place_line.new.out)
          c.loop-place.invariant.written c.requires c.in-Some.address (found (λ (stand : Stand). stand.address) heap.stands place c.in-Some.address c.in-Some.ensures)
          c.in-Some-shape.layout c.in-Some-shape.count (found shape_of heap.contents place (c.in-Some-shape.layout, c.in-Some-shape.count) c.in-Some-shape.ensures)
          (rw name at c.in_ok-place_line.ensures.ok);
      puts = λ short.
          before_next (told_by g.O.Sink.written g.O.Sink.puts c.args.out.now) (told_by g.O.Sink.written g.O.Sink.puts c.loop-place.out) (told_by g.O.Sink.written g.O.Sink.puts c.place_line.new.out)
          (place_lines layouts heap.stands heap.contents) (place_lines layouts (drop place heap.stands) (drop place heap.contents))
          ((place_line (place + 1) (layout_name layouts c.in-Some-shape.layout) c.in-Some-shape.count c.in-Some.address) ∷ []) (place_lines layouts (drop (place + 1) heap.stands) (drop (place + 1) heap.contents))
          (places_next layouts heap.stands heap.contents place c.requires c.in-Some.address (found (λ (stand : Stand). stand.address) heap.stands place c.in-Some.address c.in-Some.ensures)
          c.in-Some-shape.layout c.in-Some-shape.count (found shape_of heap.contents place (c.in-Some-shape.layout, c.in-Some-shape.count) c.in-Some-shape.ensures)) (c.loop-place.invariant.puts short)
          (puts_one (told_by g.O.Sink.written g.O.Sink.puts c.loop-place.out) (told_by g.O.Sink.written g.O.Sink.puts c.place_line.new.out) (place_line (place + 1) (layout_name layouts c.in-Some-shape.layout) c.in-Some-shape.count c.in-Some.address) (rw name at c.in_ok-place_line.ensures.ok)
          ((rw name at c.in_ok-place_line.ensures.by_one_put) (All-head IsShort (place_line (place + 1) (layout_name layouts c.in-Some-shape.layout) c.in-Some-shape.count c.in-Some.address) []
          (before_short (told_by g.O.Sink.written g.O.Sink.puts c.args.out.now) (told_by g.O.Sink.written g.O.Sink.puts c.loop-place.out) (told_by g.O.Sink.written g.O.Sink.puts c.place_line.new.out)
          (place_lines layouts heap.stands heap.contents) (place_lines layouts (drop place heap.stands) (drop place heap.contents))
          ((place_line (place + 1) (layout_name layouts c.in-Some-shape.layout) c.in-Some-shape.count c.in-Some.address) ∷ []) (place_lines layouts (drop (place + 1) heap.stands) (drop (place + 1) heap.contents))
          (places_next layouts heap.stands heap.contents place c.requires c.in-Some.address (found (λ (stand : Stand). stand.address) heap.stands place c.in-Some.address c.in-Some.ensures)
          c.in-Some-shape.layout c.in-Some-shape.count (found shape_of heap.contents place (c.in-Some-shape.layout, c.in-Some-shape.count) c.in-Some-shape.ensures)) (c.loop-place.invariant.puts short) short))));
      count = omega (arith, c.loop-place.invariant.count, c.place_line.ensures.count);
    }

pub returns-in_err-place_line-clause-cut : goal.returns-in_err-place_line-clause-cut
returns-in_err-place_line-clause-cut g c = λ short.
    let heap = c.args.heap.now in let place = c.loop-place.place in let layouts = c.args.layouts.now in
    let name = ap (λ name. place_line (place + 1) name c.in-Some-shape.count c.in-Some.address) c.layout_name.ensures in
    OnErr-always c.from_residual.result
    (before_failed (told_by g.O.Sink.written g.O.Sink.puts c.args.out.now) (told_by g.O.Sink.written g.O.Sink.puts c.loop-place.out) (told_by g.O.Sink.written g.O.Sink.puts c.place_line.new.out)
    (place_lines layouts heap.stands heap.contents) (place_lines layouts (drop place heap.stands) (drop place heap.contents))
    ((place_line (place + 1) (layout_name layouts c.in-Some-shape.layout) c.in-Some-shape.count c.in-Some.address) ∷ []) (place_lines layouts (drop (place + 1) heap.stands) (drop (place + 1) heap.contents))
    (places_next layouts heap.stands heap.contents place c.requires c.in-Some.address (found (λ (stand : Stand). stand.address) heap.stands place c.in-Some.address c.in-Some.ensures)
    c.in-Some-shape.layout c.in-Some-shape.count (found shape_of heap.contents place (c.in-Some-shape.layout, c.in-Some-shape.count) c.in-Some-shape.ensures)) (c.loop-place.invariant.puts short)
    (first_failed (told_by g.O.Sink.written g.O.Sink.puts c.loop-place.out) (told_by g.O.Sink.written g.O.Sink.puts c.place_line.new.out) (place_line (place + 1) (layout_name layouts c.in-Some-shape.layout) c.in-Some-shape.count c.in-Some.address) [] (rw name at c.in_err-place_line.ensures.err)
    ((rw name at c.in_err-place_line.ensures.unput) (All-head IsShort (place_line (place + 1) (layout_name layouts c.in-Some-shape.layout) c.in-Some-shape.count c.in-Some.address) []
    (before_short (told_by g.O.Sink.written g.O.Sink.puts c.args.out.now) (told_by g.O.Sink.written g.O.Sink.puts c.loop-place.out) (told_by g.O.Sink.written g.O.Sink.puts c.place_line.new.out)
    (place_lines layouts heap.stands heap.contents) (place_lines layouts (drop place heap.stands) (drop place heap.contents))
    ((place_line (place + 1) (layout_name layouts c.in-Some-shape.layout) c.in-Some-shape.count c.in-Some.address) ∷ []) (place_lines layouts (drop (place + 1) heap.stands) (drop (place + 1) heap.contents))
    (places_next layouts heap.stands heap.contents place c.requires c.in-Some.address (found (λ (stand : Stand). stand.address) heap.stands place c.in-Some.address c.in-Some.ensures)
    c.in-Some-shape.layout c.in-Some-shape.count (found shape_of heap.contents place (c.in-Some-shape.layout, c.in-Some-shape.count) c.in-Some-shape.ensures)) (c.loop-place.invariant.puts short) short)))))

pub returns-in_default-clause-by_one_put : goal.returns-in_default-clause-by_one_put
returns-in_default-clause-by_one_put g c = λ short.
    let heap = c.args.heap.now in let place = c.loop-place.place in let layouts = c.args.layouts.now in
    before_end (told_by g.O.Sink.written g.O.Sink.puts c.args.out.now) (told_by g.O.Sink.written g.O.Sink.puts c.loop-place.out) (place_lines layouts heap.stands heap.contents)
    (subst (PutsBefore (told_by g.O.Sink.written g.O.Sink.puts c.args.out.now) (told_by g.O.Sink.written g.O.Sink.puts c.loop-place.out) (place_lines layouts heap.stands heap.contents))
    (none_left layouts heap.stands heap.contents place (missing (λ (stand : Stand). stand.address) heap.stands place c.in_default.ensures)) (c.loop-place.invariant.puts short))

pub returns-in_default-shape-clause-by_one_put : goal.returns-in_default-shape-clause-by_one_put
returns-in_default-shape-clause-by_one_put g c = λ short.
    let heap = c.args.heap.now in let place = c.loop-place.place in let layouts = c.args.layouts.now in
    before_end (told_by g.O.Sink.written g.O.Sink.puts c.args.out.now) (told_by g.O.Sink.written g.O.Sink.puts c.loop-place.out) (place_lines layouts heap.stands heap.contents)
    (subst (PutsBefore (told_by g.O.Sink.written g.O.Sink.puts c.args.out.now) (told_by g.O.Sink.written g.O.Sink.puts c.loop-place.out) (place_lines layouts heap.stands heap.contents))
    (none_filled layouts heap.stands heap.contents place (missing shape_of heap.contents place c.in_default-shape.ensures)) (c.loop-place.invariant.puts short))

pub returns-clause-cut : goal.returns-clause-cut
returns-clause-cut g c = λ short.
    let heap = c.args.heap.now in let place = c.loop-place.place in let layouts = c.args.layouts.now in
    before_stopped (told_by g.O.Sink.written g.O.Sink.puts c.args.out.now) (told_by g.O.Sink.written g.O.Sink.puts c.loop-place.out) (place_lines layouts heap.stands heap.contents) (place_lines layouts (drop place heap.stands) (drop place heap.contents)) (c.loop-place.invariant.puts short)
