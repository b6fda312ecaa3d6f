use Rattle.std.proofs.Common.{◌≡◌, ◌++◌, drop}
use Rattle.thin_phis.specs.Runs.{entries_left}
use Rattle.thin_phis.proofs.entries.thin_entries.Given as goal

abbrev pub invariant-loop-block : goal.invariant-loop-block
invariant-loop-block l = record {
  after : entries_left l.joins l.rows l.cfg l.numbers l.entries 0 l.block-items
      ≡ l.after.items ++ entries_left l.joins l.rows l.cfg l.numbers l.rest l.block-index (drop l.block-index l.block-items);
  number : l.number ≡ l.block-index;
}
