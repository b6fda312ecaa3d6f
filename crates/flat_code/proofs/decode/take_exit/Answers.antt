use Rattle.std.proofs.Common.{refl, sym, ◌∙◌}
use Rattle.object_meaning.specs.Lines.{numbered}
use Rattle.flat_code.proofs.decode.take_exit.Goals as goal

pub leave-requires-clause-exit : goal.leave-requires-clause-exit
leave-requires-clause-exit c = record {
  line = numbered c.args.draft.now.spot.next c.args.inst.now;
  is = rw c.in_ok-spot.ensures c.requires.stands;
  block = rw c.in_ok-spot.ensures refl;
  to_is = sym c.in_ok-to.ensures;
  operands_are = sym (c.in_ok-operands.ensures.items ∙ c.operands.ensures);
  exit_is = c.in_ok-exit.ensures;
}
