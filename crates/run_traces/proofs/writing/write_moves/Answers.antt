use Rattle.std.proofs.Common.{List, [], ◌∷◌, ◌+◌, map, drop, get_or, ap, subst, sym, arith}
use Rattle.std.proofs.lemmas.List.{drop_all}
use Rattle.std.proofs.lemmas.Option.{slice_get-get_or}
use Rattle.std.proofs.lemmas.Result.{err_from_is_err_and}
use Rattle.tool_io.proofs.AppendLaws.{append_known-nil, OnErr-always}
use Rattle.piece_writer.specs.LinePuts.{told_by}
use Rattle.piece_writer.proofs.LineLaws.{PutsBefore, before_end, before_failed, before_next, before_start, first_failed, puts_one}
use Rattle.run_texts.specs.RunTexts.{line_of_move}
use Rattle.run_traces.specs.declared.happenings.ObjectMove.{ObjectMove}
use Rattle.run_traces.specs.Happenings.{move_of}
use Rattle.run_traces.proofs.WritingLemmas.{lines_front, lines_more, lines_next}
use Rattle.run_traces.proofs.writing.write_moves.Goals as goal

pub loop-one-init : goal.loop-one-init
loop-one-init g c = record {
  written = sym (append_known-nil (g.O.Sink.written c.args.out.now));
  puts = before_start (told_by g.O.Sink.written g.O.Sink.puts c.args.out.now) (map line_of_move (map move_of c.args.moves.now));
  count = omega arith;
}

pub returns-in_err-moved_line-clause-err : goal.returns-in_err-moved_line-clause-err
returns-in_err-moved_line-clause-err g c =
    let moves = c.args.moves.now in let i = c.loop-one.one-index in
    let none : ObjectMove = record { object = 0; old = 0; new = 0 } in
    let p = err_from_is_err_and c.from_residual.result c.from_residual.ensures.1 in
    rw p.1 (lines_front line_of_move move_of moves i (get_or moves i none) (slice_get-get_or moves i none c.loop-one-test.true)
    (g.O.Sink.written c.args.out.now) (g.O.Sink.written c.loop-one.out) (g.O.Sink.written c.moved_line.new.out) c.loop-one.invariant.written c.in_err-moved_line.ensures.err)

pub loop-one-preserved : goal.loop-one-preserved
loop-one-preserved g c =
    let moves = c.args.moves.now in let i = c.loop-one.one-index in
    let none : ObjectMove = record { object = 0; old = 0; new = 0 } in
    record {
      written = lines_more line_of_move move_of moves i (get_or moves i none) (slice_get-get_or moves i none c.loop-one-test.true)
          (g.O.Sink.written c.args.out.now) (g.O.Sink.written c.loop-one.out) (g.O.Sink.written c.moved_line.new.out) c.loop-one.invariant.written c.in_ok-moved_line.ensures.ok;
      puts = before_next (told_by g.O.Sink.written g.O.Sink.puts c.args.out.now) (told_by g.O.Sink.written g.O.Sink.puts c.loop-one.out) (told_by g.O.Sink.written g.O.Sink.puts c.moved_line.new.out)
          (map line_of_move (map move_of moves)) (map line_of_move (map move_of (drop i moves)))
          (line_of_move (move_of (get_or moves i none)) ∷ []) (map line_of_move (map move_of (drop (i + 1) moves)))
          (lines_next line_of_move move_of moves i (get_or moves i none) (slice_get-get_or moves i none c.loop-one-test.true)) c.loop-one.invariant.puts
          (puts_one (told_by g.O.Sink.written g.O.Sink.puts c.loop-one.out) (told_by g.O.Sink.written g.O.Sink.puts c.moved_line.new.out) (line_of_move (move_of (get_or moves i none))) c.in_ok-moved_line.ensures.ok c.in_ok-moved_line.ensures.by_one_put);
      count = omega (arith, c.loop-one.invariant.count, c.moved_line.ensures.count);
    }

pub returns-in_err-moved_line-clause-cut : goal.returns-in_err-moved_line-clause-cut
returns-in_err-moved_line-clause-cut g c =
    let moves = c.args.moves.now in let i = c.loop-one.one-index in
    let none : ObjectMove = record { object = 0; old = 0; new = 0 } in
    OnErr-always c.from_residual.result
    (before_failed (told_by g.O.Sink.written g.O.Sink.puts c.args.out.now) (told_by g.O.Sink.written g.O.Sink.puts c.loop-one.out) (told_by g.O.Sink.written g.O.Sink.puts c.moved_line.new.out)
    (map line_of_move (map move_of moves)) (map line_of_move (map move_of (drop i moves)))
    (line_of_move (move_of (get_or moves i none)) ∷ []) (map line_of_move (map move_of (drop (i + 1) moves)))
    (lines_next line_of_move move_of moves i (get_or moves i none) (slice_get-get_or moves i none c.loop-one-test.true)) c.loop-one.invariant.puts
    (first_failed (told_by g.O.Sink.written g.O.Sink.puts c.loop-one.out) (told_by g.O.Sink.written g.O.Sink.puts c.moved_line.new.out) (line_of_move (move_of (get_or moves i none))) [] c.in_err-moved_line.ensures.err c.in_err-moved_line.ensures.unput))

pub returns-clause-by_one_put : goal.returns-clause-by_one_put
returns-clause-by_one_put g c =
    let moves = c.args.moves.now in let i = c.loop-one.one-index in
    before_end (told_by g.O.Sink.written g.O.Sink.puts c.args.out.now) (told_by g.O.Sink.written g.O.Sink.puts c.loop-one.out) (map line_of_move (map move_of moves))
    (subst (PutsBefore (told_by g.O.Sink.written g.O.Sink.puts c.args.out.now) (told_by g.O.Sink.written g.O.Sink.puts c.loop-one.out) (map line_of_move (map move_of moves)))
    (ap (λ (l : List ObjectMove). map line_of_move (map move_of l)) (drop_all i moves (omega arith))) c.loop-one.invariant.puts)
