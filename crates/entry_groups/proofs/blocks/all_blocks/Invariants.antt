use Rattle.std.proofs.Common.{◌≡◌}
use Rattle.entry_groups.specs.Entry.{blocks_behind}
use Rattle.entry_groups.proofs.blocks.all_blocks.Given as goal

abbrev pub invariant-loop-block : goal.invariant-loop-block
invariant-loop-block l = l.after.items ≡ blocks_behind l.token l.group l.row l.yielded
