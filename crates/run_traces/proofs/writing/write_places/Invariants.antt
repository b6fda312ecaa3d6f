use Rattle.std.proofs.Common.{◌≤◌, drop}
use Rattle.std.specs.List.{All}
use Rattle.piece_writer.specs.LinePuts.{IsShort, told_by}
use Rattle.piece_writer.proofs.LineLaws.{PutsBefore}
use Rattle.run_texts.specs.RunTexts.{place_lines}
use Rattle.run_traces.proofs.WritingLemmas.{PlacesSoFar}
use Rattle.run_traces.proofs.writing.write_places.Given as goal

abbrev pub invariant-loop-place : goal.invariant-loop-place
invariant-loop-place g l = record {
  written : PlacesSoFar l.layouts l.heap.stands l.heap.contents l.place (g.O.Sink.written l.initial.out) (g.O.Sink.written l.out);
  puts : All IsShort (place_lines l.layouts l.heap.stands l.heap.contents) → PutsBefore (told_by g.O.Sink.written g.O.Sink.puts l.initial.out) (told_by g.O.Sink.written g.O.Sink.puts l.out) (place_lines l.layouts l.heap.stands l.heap.contents)
      (place_lines l.layouts (drop l.place l.heap.stands) (drop l.place l.heap.contents));
  count : g.O.Sink.faults l.initial.out ≤ g.O.Sink.faults l.out;
}
