use Rattle.std.proofs.Common.{[], ◌-◌, ◌+◌, length, get_or, drop, reverse, refl, sym, subst, arith}
use Rattle.std.proofs.lemmas.Result.{err_from_is_err_and}
use Rattle.tool_io.proofs.AppendLaws.{append_known-nil, AppendsBefore-next, AppendsBefore-end, AppendsBefore-failed, OnErr-always}
use Rattle.piece_writer.specs.LinePuts.{told_by}
use Rattle.piece_writer.proofs.LineLaws.{PutsBefore, before_start, before_next, before_failed, before_short, before_end}
use Rattle.waiting_frames.specs.declared.frames.Saved.{Saved}
use Rattle.waiting_frames.specs.Frames.{frames_below, exit_frame}
use Rattle.waiting_frames.specs.Shown.{frame_lines, frames_lines}
use Rattle.waiting_frames.proofs.FrameLemmas.{next_frame, next_lines, last_frame, last_lines}
use Rattle.waiting_frames.proofs.lines.show_frames.Goals as goal

pub loop-place-init : goal.loop-place-init
loop-place-init g c = record {
  before = record { done = []; split = refl; added = sym (append_known-nil (g.O.Sink.written c.args.out.now)) };
  put = λ short. before_start (told_by g.O.Sink.written g.O.Sink.puts c.args.out.now) (frames_lines c.args.code.now 1 (frames_below (reverse c.args.saved.now) c.args.registers.now));
  count = omega arith;
}

pub loop-place-preserved : goal.loop-place-preserved
loop-place-preserved g c =
    let d : Saved = record { spot = record { func = 0; segment = 0 }; base = 0 } in
    let frame = get_or c.args.saved.now (length c.args.saved.now - 1 - c.loop-place.place) d in
    let old = (told_by g.O.Sink.written g.O.Sink.puts c.args.out.now) in
    let mid = (told_by g.O.Sink.written g.O.Sink.puts c.loop-place.out) in
    let new = (told_by g.O.Sink.written g.O.Sink.puts c.show_frame.new.out) in
    record {
      before = AppendsBefore-next c.loop-place.invariant.before (g.O.Sink.written c.show_frame.new.out) _ _ c.in_ok-show_frame.ensures.ok
          (next_frame c.args.code.now c.args.saved.now c.loop-place.left.now c.split_at.result.1.now c.split_at.result.0.now c.loop-place.place c.min-at.result frame d
          c.loop-place-test.true refl c.min-at.ensures c.split_at.ensures.front c.split_at.ensures.back);
      put = λ short.
          let next = next_lines c.args.code.now c.args.saved.now c.loop-place.left.now c.split_at.result.1.now c.split_at.result.0.now c.loop-place.place c.min-at.result frame d
          c.loop-place-test.true refl c.min-at.ensures c.split_at.ensures.front c.split_at.ensures.back in
          let before = c.loop-place.invariant.put short in
          before_next old mid new
          (frames_lines c.args.code.now 1 (frames_below (reverse c.args.saved.now) c.args.registers.now))
          (frames_lines c.args.code.now (c.loop-place.place + 1) (frames_below (drop c.loop-place.place (reverse c.args.saved.now)) c.loop-place.left.now))
          (frame_lines c.args.code.now (c.loop-place.place + 1) (exit_frame c.args.code.now (record { spot = frame.spot; registers = c.split_at.result.1.now })))
          (frames_lines c.args.code.now (c.loop-place.place + 1 + 1) (frames_below (drop (c.loop-place.place + 1) (reverse c.args.saved.now)) c.split_at.result.0.now))
          next before
          (c.in_ok-show_frame.ensures.by_one_put
          (before_short old mid new
          (frames_lines c.args.code.now 1 (frames_below (reverse c.args.saved.now) c.args.registers.now))
          (frames_lines c.args.code.now (c.loop-place.place + 1) (frames_below (drop c.loop-place.place (reverse c.args.saved.now)) c.loop-place.left.now))
          (frame_lines c.args.code.now (c.loop-place.place + 1) (exit_frame c.args.code.now (record { spot = frame.spot; registers = c.split_at.result.1.now })))
          (frames_lines c.args.code.now (c.loop-place.place + 1 + 1) (frames_below (drop (c.loop-place.place + 1) (reverse c.args.saved.now)) c.split_at.result.0.now))
          next before short));
      count = omega (arith, c.loop-place.invariant.count, c.show_frame.ensures.count);
    }

pub returns-in_err-show_frame-clause-err : goal.returns-in_err-show_frame-clause-err
returns-in_err-show_frame-clause-err g c =
    let d : Saved = record { spot = record { func = 0; segment = 0 }; base = 0 } in
    let frame = get_or c.args.saved.now (length c.args.saved.now - 1 - c.loop-place.place) d in
    let p = err_from_is_err_and c.from_residual.result c.from_residual.ensures.1 in
    rw p.1 (AppendsBefore-failed c.loop-place.invariant.before c.in_err-show_frame.ensures.err _
    (next_frame c.args.code.now c.args.saved.now c.loop-place.left.now c.split_at.result.1.now c.split_at.result.0.now c.loop-place.place c.min-at.result frame d
    c.loop-place-test.true refl c.min-at.ensures c.split_at.ensures.front c.split_at.ensures.back))

pub returns-in_err-show_frame-clause-cut : goal.returns-in_err-show_frame-clause-cut
returns-in_err-show_frame-clause-cut g c = λ short.
    let d : Saved = record { spot = record { func = 0; segment = 0 }; base = 0 } in
    let frame = get_or c.args.saved.now (length c.args.saved.now - 1 - c.loop-place.place) d in
    let old = (told_by g.O.Sink.written g.O.Sink.puts c.args.out.now) in
    let mid = (told_by g.O.Sink.written g.O.Sink.puts c.loop-place.out) in
    let new = (told_by g.O.Sink.written g.O.Sink.puts c.show_frame.new.out) in
    let next = next_lines c.args.code.now c.args.saved.now c.loop-place.left.now c.split_at.result.1.now c.split_at.result.0.now c.loop-place.place c.min-at.result frame d
    c.loop-place-test.true refl c.min-at.ensures c.split_at.ensures.front c.split_at.ensures.back in
    let before = c.loop-place.invariant.put short in
    OnErr-always c.from_residual.result
    (before_failed old mid new
    (frames_lines c.args.code.now 1 (frames_below (reverse c.args.saved.now) c.args.registers.now))
    (frames_lines c.args.code.now (c.loop-place.place + 1) (frames_below (drop c.loop-place.place (reverse c.args.saved.now)) c.loop-place.left.now))
    (frame_lines c.args.code.now (c.loop-place.place + 1) (exit_frame c.args.code.now (record { spot = frame.spot; registers = c.split_at.result.1.now })))
    (frames_lines c.args.code.now (c.loop-place.place + 1 + 1) (frames_below (drop (c.loop-place.place + 1) (reverse c.args.saved.now)) c.split_at.result.0.now))
    next before
    (c.in_err-show_frame.ensures.cut
    (before_short old mid new
    (frames_lines c.args.code.now 1 (frames_below (reverse c.args.saved.now) c.args.registers.now))
    (frames_lines c.args.code.now (c.loop-place.place + 1) (frames_below (drop c.loop-place.place (reverse c.args.saved.now)) c.loop-place.left.now))
    (frame_lines c.args.code.now (c.loop-place.place + 1) (exit_frame c.args.code.now (record { spot = frame.spot; registers = c.split_at.result.1.now })))
    (frames_lines c.args.code.now (c.loop-place.place + 1 + 1) (frames_below (drop (c.loop-place.place + 1) (reverse c.args.saved.now)) c.split_at.result.0.now))
    next before short)))

pub returns-clause-ok : goal.returns-clause-ok
returns-clause-ok g c =
    AppendsBefore-end (rw (last_frame c.args.code.now c.args.saved.now c.loop-place.left.now c.loop-place.place (omega arith)) at c.loop-place.invariant.before)

pub returns-clause-by_one_put : goal.returns-clause-by_one_put
returns-clause-by_one_put g c = λ short.
    before_end (told_by g.O.Sink.written g.O.Sink.puts c.args.out.now) (told_by g.O.Sink.written g.O.Sink.puts c.loop-place.out)
    (frames_lines c.args.code.now 1 (frames_below (reverse c.args.saved.now) c.args.registers.now))
    (subst (PutsBefore (told_by g.O.Sink.written g.O.Sink.puts c.args.out.now) (told_by g.O.Sink.written g.O.Sink.puts c.loop-place.out) (frames_lines c.args.code.now 1 (frames_below (reverse c.args.saved.now) c.args.registers.now)))
    (last_lines c.args.code.now c.args.saved.now c.loop-place.left.now c.loop-place.place (omega arith)) (c.loop-place.invariant.put short))
