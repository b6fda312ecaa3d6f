use Rattle.std.proofs.Common.{◌≡◌, map, take}
use Rattle.machine_lines.specs.Decoding.{decoded_of}
use Rattle.machine_lines.proofs.decoded.decoded_all.Given as goal

abbrev pub invariant-loop-inst : goal.invariant-loop-inst
invariant-loop-inst l = l.list.items ≡ map decoded_of (take l.inst-index l.insts)
