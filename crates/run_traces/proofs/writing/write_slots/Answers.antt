use Rattle.std.proofs.Common.{List, [], ◌∷◌, ◌+◌, map, drop, get_or, ap, subst, sym, arith}
use Rattle.std.proofs.lemmas.List.{drop_all}
use Rattle.std.proofs.lemmas.Option.{slice_get-get_or}
use Rattle.std.proofs.lemmas.Result.{err_from_is_err_and}
use Rattle.tool_io.proofs.AppendLaws.{append_known-nil, OnErr-always}
use Rattle.piece_writer.specs.LinePuts.{told_by}
use Rattle.piece_writer.proofs.LineLaws.{PutsBefore, before_end, before_failed, before_next, before_start, first_failed, puts_one}
use Rattle.run_texts.specs.RunTexts.{line_of_slot}
use Rattle.run_traces.specs.declared.frames.SlotChange.{SlotChange}
use Rattle.run_traces.specs.Changes.{change_of}
use Rattle.run_traces.proofs.WritingLemmas.{lines_front, lines_more, lines_next}
use Rattle.run_traces.proofs.writing.write_slots.Goals as goal

pub loop-one-init : goal.loop-one-init
loop-one-init g c = record {
  written = sym (append_known-nil (g.O.Sink.written c.args.out.now));
  puts = before_start (told_by g.O.Sink.written g.O.Sink.puts c.args.out.now) (map line_of_slot (map change_of c.args.slots.now));
  count = omega arith;
}

pub returns-in_err-slot_line-clause-err : goal.returns-in_err-slot_line-clause-err
returns-in_err-slot_line-clause-err g c =
    let slots = c.args.slots.now in let i = c.loop-one.one-index in
    let none : SlotChange = record { task = 0; frame = 0; offset = 0; old = 0; new = 0 } in
    let p = err_from_is_err_and c.from_residual.result c.from_residual.ensures.1 in
    rw p.1 (lines_front line_of_slot change_of slots i (get_or slots i none) (slice_get-get_or slots i none c.loop-one-test.true)
    (g.O.Sink.written c.args.out.now) (g.O.Sink.written c.loop-one.out) (g.O.Sink.written c.slot_line.new.out) c.loop-one.invariant.written c.in_err-slot_line.ensures.err)

pub loop-one-preserved : goal.loop-one-preserved
loop-one-preserved g c =
    let slots = c.args.slots.now in let i = c.loop-one.one-index in
    let none : SlotChange = record { task = 0; frame = 0; offset = 0; old = 0; new = 0 } in
    record {
      written = lines_more line_of_slot change_of slots i (get_or slots i none) (slice_get-get_or slots i none c.loop-one-test.true)
          (g.O.Sink.written c.args.out.now) (g.O.Sink.written c.loop-one.out) (g.O.Sink.written c.slot_line.new.out) c.loop-one.invariant.written c.in_ok-slot_line.ensures.ok;
      puts = before_next (told_by g.O.Sink.written g.O.Sink.puts c.args.out.now) (told_by g.O.Sink.written g.O.Sink.puts c.loop-one.out) (told_by g.O.Sink.written g.O.Sink.puts c.slot_line.new.out)
          (map line_of_slot (map change_of slots)) (map line_of_slot (map change_of (drop i slots)))
          (line_of_slot (change_of (get_or slots i none)) ∷ []) (map line_of_slot (map change_of (drop (i + 1) slots)))
          (lines_next line_of_slot change_of slots i (get_or slots i none) (slice_get-get_or slots i none c.loop-one-test.true)) c.loop-one.invariant.puts
          (puts_one (told_by g.O.Sink.written g.O.Sink.puts c.loop-one.out) (told_by g.O.Sink.written g.O.Sink.puts c.slot_line.new.out) (line_of_slot (change_of (get_or slots i none))) c.in_ok-slot_line.ensures.ok c.in_ok-slot_line.ensures.by_one_put);
      count = omega (arith, c.loop-one.invariant.count, c.slot_line.ensures.count);
    }

pub returns-in_err-slot_line-clause-cut : goal.returns-in_err-slot_line-clause-cut
returns-in_err-slot_line-clause-cut g c =
    let slots = c.args.slots.now in let i = c.loop-one.one-index in
    let none : SlotChange = record { task = 0; frame = 0; offset = 0; old = 0; new = 0 } in
    OnErr-always c.from_residual.result
    (before_failed (told_by g.O.Sink.written g.O.Sink.puts c.args.out.now) (told_by g.O.Sink.written g.O.Sink.puts c.loop-one.out) (told_by g.O.Sink.written g.O.Sink.puts c.slot_line.new.out)
    (map line_of_slot (map change_of slots)) (map line_of_slot (map change_of (drop i slots)))
    (line_of_slot (change_of (get_or slots i none)) ∷ []) (map line_of_slot (map change_of (drop (i + 1) slots)))
    (lines_next line_of_slot change_of slots i (get_or slots i none) (slice_get-get_or slots i none c.loop-one-test.true)) c.loop-one.invariant.puts
    (first_failed (told_by g.O.Sink.written g.O.Sink.puts c.loop-one.out) (told_by g.O.Sink.written g.O.Sink.puts c.slot_line.new.out) (line_of_slot (change_of (get_or slots i none))) [] c.in_err-slot_line.ensures.err c.in_err-slot_line.ensures.unput))

pub returns-clause-by_one_put : goal.returns-clause-by_one_put
returns-clause-by_one_put g c =
    let slots = c.args.slots.now in let i = c.loop-one.one-index in
    before_end (told_by g.O.Sink.written g.O.Sink.puts c.args.out.now) (told_by g.O.Sink.written g.O.Sink.puts c.loop-one.out) (map line_of_slot (map change_of slots))
    (subst (PutsBefore (told_by g.O.Sink.written g.O.Sink.puts c.args.out.now) (told_by g.O.Sink.written g.O.Sink.puts c.loop-one.out) (map line_of_slot (map change_of slots)))
    (ap (λ (l : List SlotChange). map line_of_slot (map change_of l)) (drop_all i slots (omega arith))) c.loop-one.invariant.puts)
