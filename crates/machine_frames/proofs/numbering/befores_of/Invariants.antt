use Rattle.std.proofs.Common.{◌≡◌, ◌++◌, drop}
use Rattle.machine_frames.specs.Tables.{befores_from}
use Rattle.machine_frames.proofs.numbering.befores_of.Given as goal

abbrev pub invariant-loop-block : goal.invariant-loop-block
invariant-loop-block l = l.list.items ++ befores_from l.count (drop l.block-index l.blocks) ≡ befores_from 0 l.blocks
