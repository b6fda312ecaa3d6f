use Rattle.std.proofs.Common.{◌≡◌, map, length}
use Rattle.ir_cfg.specs.Unreached.{kept_of, block_kept}
use Rattle.ir_cfg.proofs.unreached.kept_blocks.Given as goal

abbrev pub invariant-loop-block : goal.invariant-loop-block
invariant-loop-block l = record {
  place : l.place ≡ length l.yielded;
  kept : l.kept.items ≡ map (block_kept l.renumber) (kept_of l.renumber.marks l.yielded);
}
