use Rattle.std.proofs.Common.{◌≡◌, ◌++◌, drop}
use Rattle.machine_frames.specs.Tables.{sites_from, sites_of}
use Rattle.machine_frames.proofs.landings.landings_of.Given as goal

abbrev pub invariant-loop-block : goal.invariant-loop-block
invariant-loop-block l = l.list.items ++ sites_from l.next (drop l.block-index l.block-items) ≡ sites_of l.func.content
