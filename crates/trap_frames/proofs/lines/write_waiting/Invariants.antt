use Rattle.std.proofs.Common.{◌≡◌, ◌+◌, ◌-◌, ◌≤◌, length}
use Rattle.std.specs.List.{All, concat}
use Rattle.tool_io.proofs.AppendLaws.{AppendsBefore}
use Rattle.piece_writer.specs.LinePuts.{IsShort, told_by}
use Rattle.piece_writer.proofs.LineLaws.{PutsBefore}
use Rattle.machine_meaning.specs.Machines.{Machinery}
use Rattle.machine_meaning.specs.TrapLines.{lines_from, waiting_lines}
use Rattle.trap_frames.specs.Waiting.{IsReadBy, waiting_text}
use Rattle.trap_frames.proofs.lines.write_waiting.Given as goal

abbrev pub invariant-frames : goal.invariant-frames
invariant-frames g l = record {
  fits : l.number + length l.frames.words.now ≤ length l.stack;
  first : 1 ≤ l.number;
  address_is : l.address ≡ l.frames.address;
  found_is : g.M.FrameMap.found l.frames.map.now ≡ g.M.FrameMap.found l.map;
  before : (machinery : Machinery) → IsReadBy (g.M.FrameMap.found l.map) (g.M.FrameMap.constants l.map) (g.F.Functions.names l.functions) machinery
      → AppendsBefore (g.O.Sink.written l.initial.out) (g.O.Sink.written l.out) (waiting_text machinery (g.H.Objects.stands l.objects) l.own l.stack)
      (concat (lines_from (length l.stack + 1 - l.number) machinery (g.H.Objects.stands l.objects) l.number l.frames.address l.frames.words.now));
  puts : (machinery : Machinery) → IsReadBy (g.M.FrameMap.found l.map) (g.M.FrameMap.constants l.map) (g.F.Functions.names l.functions) machinery
      → All IsShort (waiting_lines machinery (g.H.Objects.stands l.objects) l.own l.stack)
      → PutsBefore (told_by g.O.Sink.written g.O.Sink.puts l.initial.out) (told_by g.O.Sink.written g.O.Sink.puts l.out) (waiting_lines machinery (g.H.Objects.stands l.objects) l.own l.stack)
      (lines_from (length l.stack + 1 - l.number) machinery (g.H.Objects.stands l.objects) l.number l.frames.address l.frames.words.now);
  count : g.O.Sink.faults l.initial.out ≤ g.O.Sink.faults l.out;
}

abbrev pub decreases-frames : goal.decreases-frames
decreases-frames g l = length l.frames.words.now
