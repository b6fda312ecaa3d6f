use Rattle.std.proofs.Common.{◌≤◌}
use Rattle.piece_writer.specs.LinePuts.{told_by}
use Rattle.ir_machine.specs.Executors.{machinery, seen}
use Rattle.ir_machine.specs.Answers.{Follows, unprinted}
use Rattle.ir_machine.proofs.run.run.Given as goal

abbrev pub invariant-loop : goal.invariant-loop
invariant-loop g l = record {
  follows : Follows (machinery l.program) l.shows.trace (unprinted (seen l.initial.executor)) (seen l.executor) l.lines
      (told_by g.O.Sink.written g.O.Sink.puts l.initial.out) (told_by g.O.Sink.written g.O.Sink.puts l.out);
  count : g.O.Sink.faults l.initial.out ≤ g.O.Sink.faults l.out;
}
