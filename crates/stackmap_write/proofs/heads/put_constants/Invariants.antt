use Rattle.std.proofs.Common.{◌≡◌, ◌++◌, drop}
use Rattle.std.specs.List.{flat_map}
use Rattle.byteorder.specs.Endian.{little_bytes}
use Rattle.stackmap_write.proofs.heads.put_constants.Given as goal

abbrev pub invariant-loop-constant : goal.invariant-loop-constant
invariant-loop-constant l =
    l.bytes.items ++ flat_map (little_bytes 8) (drop l.constant-index l.constants) ≡ l.initial.bytes.items ++ flat_map (little_bytes 8) l.constants
