use Rattle.std.proofs.Common.{◌≡◌, ◌≤◌, map, drop, take}
use Rattle.std.specs.List.{concat}
use Rattle.tool_io.specs.Sink.{append_known}
use Rattle.piece_writer.specs.LinePuts.{told_by}
use Rattle.piece_writer.proofs.LineLaws.{PutsBefore}
use Rattle.run_texts.specs.RunTexts.{line_of_move}
use Rattle.run_traces.specs.Happenings.{move_of}
use Rattle.run_traces.proofs.writing.write_moves.Given as goal

abbrev pub invariant-loop-one : goal.invariant-loop-one
invariant-loop-one g l = record {
  written : g.O.Sink.written l.out ≡ append_known (g.O.Sink.written l.initial.out) (concat (map line_of_move (map move_of (take l.one-index l.moves))));
  puts : PutsBefore (told_by g.O.Sink.written g.O.Sink.puts l.initial.out) (told_by g.O.Sink.written g.O.Sink.puts l.out)
      (map line_of_move (map move_of l.moves)) (map line_of_move (map move_of (drop l.one-index l.moves)));
  count : g.O.Sink.faults l.initial.out ≤ g.O.Sink.faults l.out;
}
