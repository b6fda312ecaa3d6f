use Rattle.std.proofs.Common.{◌≡◌, ◌≤◌, length, take}
use Rattle.object_meaning.specs.Lines.{after_all}
use Rattle.live_sets.specs.Lists.{AtPlace}
use Rattle.live_sets.proofs.lists.add_lines.Given as goal

abbrev pub invariant-loop-place : goal.invariant-loop-place
invariant-loop-place l = record {
  within : l.place ≤ length l.insts;
  next : l.next ≡ after_all l.fn.first (take l.place l.insts);
  at : AtPlace l.func.content l.bases l.marks l.fn.number l.place l.set l.initial.lists.items l.lists.items;
}

abbrev pub decreases-loop-place : goal.decreases-loop-place
decreases-loop-place l = l.place
