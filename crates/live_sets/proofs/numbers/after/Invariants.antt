use Rattle.std.proofs.Common.{◌≡◌, ◌+◌, ◌≤◌, take}
use Rattle.object_meaning.specs.Lines.{after_all}
use Rattle.live_sets.proofs.numbers.after.Given as goal

abbrev pub invariant-loop-inst : goal.invariant-loop-inst
invariant-loop-inst l = record {
  is : l.next ≡ after_all l.fn.first (take l.inst-index l.insts);
  small : l.next ≤ l.fn.first + l.inst-index;
}
