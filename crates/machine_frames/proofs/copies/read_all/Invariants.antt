use Rattle.std.proofs.Common.{◌≡◌, map, take}
use Rattle.machine_frames.specs.Frames.{write_of}
use Rattle.machine_frames.specs.Landings.{copy_write}
use Rattle.machine_frames.proofs.copies.read_all.Given as goal

abbrev pub invariant-loop-copy : goal.invariant-loop-copy
invariant-loop-copy l = map write_of l.moves.items ≡ map (copy_write l.registers) (take l.copy-index l.copies)
