use Rattle.std.proofs.Common.{◌≡◌, ◌≤◌, ◌+◌, take}
use Rattle.object_meaning.specs.Lines.{after_all}
use Rattle.live_sets.specs.Starts.{Grown, block_adds}
use Rattle.live_sets.proofs.starts.add_block.Given as goal

abbrev pub invariant-loop-inst : goal.invariant-loop-inst
invariant-loop-inst l = record {
  grown : Grown l.wanted l.initial.starts.items l.starts.items (λ v. block_adds l.marks l.bases l.node l.first l.first v (take l.inst-index l.insts));
  next : l.next ≡ after_all l.first (take l.inst-index l.insts);
  small : l.next ≤ l.first + l.inst-index;
}
