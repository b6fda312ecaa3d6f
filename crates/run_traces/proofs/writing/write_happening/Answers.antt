use Rattle.std.proofs.Common.{List, [], ◌∷◌, ◌++◌, map, ap, sym}
use Rattle.std.specs.Prelude.{if◌then◌else◌}
use Rattle.std.proofs.lemmas.Result.{on_err_weaker, on_ok_weaker}
use Rattle.tool_io.proofs.AppendLaws.{OnErr-always}
use Rattle.piece_writer.specs.LinePuts.{told_by}
use Rattle.piece_writer.proofs.LineLaws.{first_failed, puts_one, puts_same}
use Rattle.machine_meaning.specs.Happenings.{SlotChange as Change}
use Rattle.tool_report.specs.RunLines.{event_line}
use Rattle.run_texts.specs.RunTexts.{is_poll, line_of_move, line_of_slot}
use Rattle.run_traces.specs.Changes.{change_of}
use Rattle.run_traces.specs.Happenings.{kind_of, move_of}
use Rattle.run_traces.proofs.WritingLemmas.{line_front, moves_cut, moves_front, moves_put, poll_kind, slots_all, slots_cut, slots_front, slots_put}
use Rattle.run_traces.proofs.writing.write_happening.Goals as goal

pub returns-in_err-event_line-clause-err : goal.returns-in_err-event_line-clause-err
returns-in_err-event_line-clause-err g c =
    let one = c.args.happening.now in
    let slots : List Change = if c.args.lost then [] else map change_of one.slots.items in
    OnErr-always c.from_residual.result
    (line_front (event_line one.number (is_poll (kind_of one.poll)) one.verdict) (map line_of_move (map move_of one.moves.items)) (map line_of_slot slots)
    (g.O.Sink.written c.args.out.now) (g.O.Sink.written c.event_line.new.out)
    (rw (ap (λ b. event_line one.number b one.verdict) (sym (poll_kind one.poll))) at c.in_err-event_line.ensures.err))

pub returns-in_err-write_moves-clause-err : goal.returns-in_err-write_moves-clause-err
returns-in_err-write_moves-clause-err g c =
    let one = c.args.happening.now in
    let slots : List Change = if c.args.lost then [] else map change_of one.slots.items in
    OnErr-always c.from_residual-in_err-write_moves.result
    (moves_front (event_line one.number (is_poll (kind_of one.poll)) one.verdict) (map line_of_move (map move_of one.moves.items)) (map line_of_slot slots)
    (g.O.Sink.written c.args.out.now) (g.O.Sink.written c.event_line.new.out) (g.O.Sink.written c.write_moves.new.out) (g.O.Sink.written c.write_moves.new.out)
    (rw (ap (λ b. event_line one.number b one.verdict) (sym (poll_kind one.poll))) at c.in_ok-event_line.ensures.ok)
    (rw c.as_slice.ensures.value at c.in_err-write_moves.ensures.err))

pub returns-clause-ok : goal.returns-clause-ok
returns-clause-ok g c =
    let one = c.args.happening.now in
    let slots = map line_of_slot (map change_of one.slots.items) in
    let moves = map line_of_move (map move_of one.moves.items) in
    let line = event_line one.number (is_poll (kind_of one.poll)) one.verdict in
    rw c.if-lost.false (on_ok_weaker c.write_slots.result
    (slots_all line moves slots (g.O.Sink.written c.args.out.now) (g.O.Sink.written c.event_line.new.out) (g.O.Sink.written c.write_moves.new.out) (g.O.Sink.written c.write_slots.new.out)
    (rw (ap (λ b. event_line one.number b one.verdict) (sym (poll_kind one.poll))) at c.in_ok-event_line.ensures.ok)
    (rw c.as_slice.ensures.value at c.in_ok-write_moves.ensures.ok))
    (rw c.as_slice-2.ensures.value at c.write_slots.ensures.ok))

pub returns-clause-err : goal.returns-clause-err
returns-clause-err g c =
    let one = c.args.happening.now in
    let slots = map line_of_slot (map change_of one.slots.items) in
    let moves = map line_of_move (map move_of one.moves.items) in
    let line = event_line one.number (is_poll (kind_of one.poll)) one.verdict in
    rw c.if-lost.false (on_err_weaker c.write_slots.result
    (slots_front line moves slots (g.O.Sink.written c.args.out.now) (g.O.Sink.written c.event_line.new.out) (g.O.Sink.written c.write_moves.new.out) (g.O.Sink.written c.write_slots.new.out)
    (rw (ap (λ b. event_line one.number b one.verdict) (sym (poll_kind one.poll))) at c.in_ok-event_line.ensures.ok)
    (rw c.as_slice.ensures.value at c.in_ok-write_moves.ensures.ok))
    (rw c.as_slice-2.ensures.value at c.write_slots.ensures.err))

pub returns-in_err-event_line-clause-cut : goal.returns-in_err-event_line-clause-cut
returns-in_err-event_line-clause-cut g c =
    let one = c.args.happening.now in
    let slots : List Change = if c.args.lost then [] else map change_of one.slots.items in
    OnErr-always c.from_residual.result
    (first_failed (told_by g.O.Sink.written g.O.Sink.puts c.args.out.now) (told_by g.O.Sink.written g.O.Sink.puts c.event_line.new.out) (event_line one.number (is_poll (kind_of one.poll)) one.verdict) (map line_of_move (map move_of one.moves.items) ++ map line_of_slot slots)
    (rw (ap (λ b. event_line one.number b one.verdict) (sym (poll_kind one.poll))) at c.in_err-event_line.ensures.err) c.in_err-event_line.ensures.unput)

pub returns-in_err-write_moves-clause-cut : goal.returns-in_err-write_moves-clause-cut
returns-in_err-write_moves-clause-cut g c =
    let one = c.args.happening.now in
    let slots : List Change = if c.args.lost then [] else map change_of one.slots.items in
    let line = event_line one.number (is_poll (kind_of one.poll)) one.verdict in
    OnErr-always c.from_residual-in_err-write_moves.result
    (moves_cut line (map line_of_move (map move_of one.moves.items)) (map line_of_slot slots) (told_by g.O.Sink.written g.O.Sink.puts c.args.out.now) (told_by g.O.Sink.written g.O.Sink.puts c.event_line.new.out) (told_by g.O.Sink.written g.O.Sink.puts c.write_moves.new.out) (told_by g.O.Sink.written g.O.Sink.puts c.write_moves.new.out)
    (puts_same (told_by g.O.Sink.written g.O.Sink.puts c.args.out.now) (told_by g.O.Sink.written g.O.Sink.puts c.event_line.new.out) (event_line one.number one.poll one.verdict ∷ []) (line ∷ [])
    (ap (λ b. event_line one.number b one.verdict ∷ []) (sym (poll_kind one.poll)))
    (puts_one (told_by g.O.Sink.written g.O.Sink.puts c.args.out.now) (told_by g.O.Sink.written g.O.Sink.puts c.event_line.new.out) (event_line one.number one.poll one.verdict) c.in_ok-event_line.ensures.ok c.in_ok-event_line.ensures.by_one_put))
    (rw c.as_slice.ensures.value at c.in_err-write_moves.ensures.cut))

pub returns-then-lost-clause-by_one_put : goal.returns-then-lost-clause-by_one_put
returns-then-lost-clause-by_one_put g c =
    let one = c.args.happening.now in
    let moves = map line_of_move (map move_of one.moves.items) in
    let line = event_line one.number (is_poll (kind_of one.poll)) one.verdict in
    rw c.if-lost.true (moves_put line moves [] (told_by g.O.Sink.written g.O.Sink.puts c.args.out.now) (told_by g.O.Sink.written g.O.Sink.puts c.event_line.new.out) (told_by g.O.Sink.written g.O.Sink.puts c.write_moves.new.out) (told_by g.O.Sink.written g.O.Sink.puts c.write_moves.new.out)
    (puts_same (told_by g.O.Sink.written g.O.Sink.puts c.args.out.now) (told_by g.O.Sink.written g.O.Sink.puts c.event_line.new.out) (event_line one.number one.poll one.verdict ∷ []) (line ∷ [])
    (ap (λ b. event_line one.number b one.verdict ∷ []) (sym (poll_kind one.poll)))
    (puts_one (told_by g.O.Sink.written g.O.Sink.puts c.args.out.now) (told_by g.O.Sink.written g.O.Sink.puts c.event_line.new.out) (event_line one.number one.poll one.verdict) c.in_ok-event_line.ensures.ok c.in_ok-event_line.ensures.by_one_put))
    (rw c.as_slice.ensures.value at c.in_ok-write_moves.ensures.by_one_put))

pub returns-clause-by_one_put : goal.returns-clause-by_one_put
returns-clause-by_one_put g c =
    let one = c.args.happening.now in
    let slots = map line_of_slot (map change_of one.slots.items) in
    let moves = map line_of_move (map move_of one.moves.items) in
    let line = event_line one.number (is_poll (kind_of one.poll)) one.verdict in
    rw c.if-lost.false (on_ok_weaker c.write_slots.result
    (slots_put line moves slots (told_by g.O.Sink.written g.O.Sink.puts c.args.out.now) (told_by g.O.Sink.written g.O.Sink.puts c.event_line.new.out) (told_by g.O.Sink.written g.O.Sink.puts c.write_moves.new.out) (told_by g.O.Sink.written g.O.Sink.puts c.write_slots.new.out)
    (puts_same (told_by g.O.Sink.written g.O.Sink.puts c.args.out.now) (told_by g.O.Sink.written g.O.Sink.puts c.event_line.new.out) (event_line one.number one.poll one.verdict ∷ []) (line ∷ [])
    (ap (λ b. event_line one.number b one.verdict ∷ []) (sym (poll_kind one.poll)))
    (puts_one (told_by g.O.Sink.written g.O.Sink.puts c.args.out.now) (told_by g.O.Sink.written g.O.Sink.puts c.event_line.new.out) (event_line one.number one.poll one.verdict) c.in_ok-event_line.ensures.ok c.in_ok-event_line.ensures.by_one_put))
    (rw c.as_slice.ensures.value at c.in_ok-write_moves.ensures.by_one_put))
    (rw c.as_slice-2.ensures.value at c.write_slots.ensures.by_one_put))

pub returns-clause-cut : goal.returns-clause-cut
returns-clause-cut g c =
    let one = c.args.happening.now in
    let slots = map line_of_slot (map change_of one.slots.items) in
    let moves = map line_of_move (map move_of one.moves.items) in
    let line = event_line one.number (is_poll (kind_of one.poll)) one.verdict in
    rw c.if-lost.false (on_err_weaker c.write_slots.result
    (slots_cut line moves slots (told_by g.O.Sink.written g.O.Sink.puts c.args.out.now) (told_by g.O.Sink.written g.O.Sink.puts c.event_line.new.out) (told_by g.O.Sink.written g.O.Sink.puts c.write_moves.new.out) (told_by g.O.Sink.written g.O.Sink.puts c.write_slots.new.out)
    (puts_same (told_by g.O.Sink.written g.O.Sink.puts c.args.out.now) (told_by g.O.Sink.written g.O.Sink.puts c.event_line.new.out) (event_line one.number one.poll one.verdict ∷ []) (line ∷ [])
    (ap (λ b. event_line one.number b one.verdict ∷ []) (sym (poll_kind one.poll)))
    (puts_one (told_by g.O.Sink.written g.O.Sink.puts c.args.out.now) (told_by g.O.Sink.written g.O.Sink.puts c.event_line.new.out) (event_line one.number one.poll one.verdict) c.in_ok-event_line.ensures.ok c.in_ok-event_line.ensures.by_one_put))
    (rw c.as_slice.ensures.value at c.in_ok-write_moves.ensures.by_one_put))
    (rw c.as_slice-2.ensures.value at c.write_slots.ensures.cut))
