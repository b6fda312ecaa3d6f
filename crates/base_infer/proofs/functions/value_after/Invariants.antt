use Rattle.std.proofs.Common.{◌≡◌, ◌≤◌, ◌+◌, take}
use Rattle.object_meaning.specs.Lines.{after_all}
use Rattle.base_infer.proofs.functions.value_after.Given as goal

abbrev pub invariant-loop-inst : goal.invariant-loop-inst
invariant-loop-inst l = record {
  next : l.next ≡ after_all l.start (take l.inst-index l.insts);
  few : l.next ≤ l.start + l.inst-index;
}
