use Rattle.std.proofs.Common.{◌≡◌, drop, fold}
use Rattle.std.specs.List.{flat_map}
use Rattle.stackmap_write.specs.Constants.{constants_of, large_of, with_constant}
use Rattle.stackmap_write.proofs.constants.constants_of.Given as goal

abbrev pub invariant-loop-func : goal.invariant-loop-func
invariant-loop-func l =
    fold with_constant l.constants.keys (flat_map large_of (drop l.func-index l.module.content.funcs)) ≡ constants_of l.module.content
