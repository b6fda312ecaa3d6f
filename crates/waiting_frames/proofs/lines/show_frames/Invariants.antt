use Rattle.std.proofs.Common.{◌+◌, ◌≤◌, drop, reverse}
use Rattle.std.specs.List.{All}
use Rattle.tool_io.proofs.AppendLaws.{AppendsBefore}
use Rattle.piece_writer.specs.LinePuts.{IsShort, told_by}
use Rattle.piece_writer.proofs.LineLaws.{PutsBefore}
use Rattle.waiting_frames.specs.Frames.{frames_below}
use Rattle.waiting_frames.specs.Shown.{frames_lines, frames_text}
use Rattle.waiting_frames.proofs.lines.show_frames.Given as goal

abbrev pub invariant-loop-place : goal.invariant-loop-place
invariant-loop-place g l = record {
  before : AppendsBefore (g.O.Sink.written l.initial.out) (g.O.Sink.written l.out)
      (frames_text l.code 1 (frames_below (reverse l.saved) l.registers))
      (frames_text l.code (l.place + 1) (frames_below (drop l.place (reverse l.saved)) l.left));
  put : All IsShort (frames_lines l.code 1 (frames_below (reverse l.saved) l.registers))
      → PutsBefore (told_by g.O.Sink.written g.O.Sink.puts l.initial.out) (told_by g.O.Sink.written g.O.Sink.puts l.out)
      (frames_lines l.code 1 (frames_below (reverse l.saved) l.registers))
      (frames_lines l.code (l.place + 1) (frames_below (drop l.place (reverse l.saved)) l.left));
  count : g.O.Sink.faults l.initial.out ≤ g.O.Sink.faults l.out;
}
