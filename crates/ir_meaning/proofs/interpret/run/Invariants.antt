use Rattle.std.proofs.Common.{◌≡◌, ◌≤◌}
use Rattle.piece_writer.specs.LinePuts.{told_by}
use Rattle.ir_meaning.specs.Machines.{state_of, today}
use Rattle.ir_meaning.specs.References.{Follows, unprinted}
use Rattle.ir_meaning.proofs.interpret.run.Given as goal

abbrev pub invariant-loop : goal.invariant-loop
invariant-loop g l = record {
  follows : Follows (today l.code l.plan l.bound) (unprinted (state_of l.code l.initial.machine)) (state_of l.code l.machine) l.lines
      (told_by g.O.Sink.written g.O.Sink.puts l.initial.out) (told_by g.O.Sink.written g.O.Sink.puts l.out);
  layouts : l.machine.objects.layouts ≡ l.code.content.layouts;
  count : g.O.Sink.faults l.initial.out ≤ g.O.Sink.faults l.out;
}
