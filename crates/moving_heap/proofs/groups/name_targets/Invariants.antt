use Rattle.std.proofs.Common.{◌≡◌, ℕ, ◌+◌, ◌<◌, true, None, take, length, get_or}
use Rattle.moving_heap.specs.Places.{line_target, exist, differ}
use Rattle.moving_heap.specs.Orders.{targets_in}
use Rattle.moving_heap.proofs.GroupLemmas.{olds}
use Rattle.moving_heap.proofs.groups.name_targets.Given as goal

abbrev pub invariant-loop-line : goal.invariant-loop-line
invariant-loop-line l = record {
  named : (k : ℕ) → k < length l.stands → get_or (targets_in l.targets) k None ≡ line_target (take l.line-index l.lines) (k + 1);
  exist : exist l.stands (take l.line-index l.lines) ≡ true;
  differ : differ (take l.line-index l.lines) ≡ true;
  same : length l.targets ≡ length l.stands;
  olds : olds l.targets ≡ olds l.initial.targets;
}
