use Rattle.std.proofs.Common.{◌≡◌, drop, fold}
use Rattle.std.specs.List.{flat_map}
use Rattle.stackmap_write.specs.Constants.{large_in, with_constant}
use Rattle.stackmap_write.proofs.constants.add_block.Given as goal

abbrev pub invariant-loop-inst : goal.invariant-loop-inst
invariant-loop-inst l =
    fold with_constant l.constants.keys (flat_map large_in (drop l.inst-index l.insts)) ≡ fold with_constant l.initial.constants.keys (flat_map large_in l.insts)
