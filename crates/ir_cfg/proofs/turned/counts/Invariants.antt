use Rattle.std.proofs.Common.{◌≡◌, length, take}
use Rattle.ir_cfg.specs.Filled.{AreCounts}
use Rattle.ir_cfg.proofs.turned.counts.Given as goal

abbrev pub invariant-loop-label : goal.invariant-loop-label
invariant-loop-label l = record {
  whole : length l.counts.items ≡ l.count;
  counts : AreCounts (take l.label-index l.labels) l.counts.items;
}
