use Rattle.std.proofs.Common.{◌≡◌, length}
use Rattle.ssa_rebuild.specs.Written.{blocks_written}
use Rattle.ssa_rebuild.proofs.WrittenLemmas.{blocks_behind}
use Rattle.ssa_rebuild.proofs.blocks.all_blocks.Given as goal

abbrev pub invariant-loop-block : goal.invariant-loop-block
invariant-loop-block l = record {
  after : l.after.items ≡ blocks_written l.cfg l.groups l.joins l.rows 0 l.initial.now l.yielded;
  now : l.now ≡ blocks_behind l.cfg l.groups l.joins l.rows 0 l.initial.now l.yielded;
  number : l.number ≡ length l.yielded;
}
