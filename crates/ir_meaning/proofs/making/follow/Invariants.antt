use Rattle.std.proofs.Common.{◌≡◌}
use Rattle.ir_meaning.specs.Machines.{state_of, today}
use Rattle.ir_meaning.specs.Makings.{Tracks}
use Rattle.ir_meaning.specs.References.{unprinted}
use Rattle.ir_meaning.proofs.making.follow.Given as goal

abbrev pub invariant-loop : goal.invariant-loop
invariant-loop l = record {
  tracks : Tracks (today l.code l.plan l.bound) (unprinted (state_of l.code l.initial.machine)) (state_of l.code l.machine) l.lines l.made.items;
  layouts : l.machine.objects.layouts ≡ l.code.content.layouts;
}
