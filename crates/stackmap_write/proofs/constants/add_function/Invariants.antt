use Rattle.std.proofs.Common.{◌≡◌, drop, fold}
use Rattle.std.specs.List.{flat_map}
use Rattle.ir_ast.specs.Funcs.{instructions_of}
use Rattle.stackmap_write.specs.Constants.{large_in, large_of, with_constant}
use Rattle.stackmap_write.proofs.constants.add_function.Given as goal

abbrev pub invariant-loop-block : goal.invariant-loop-block
invariant-loop-block l =
    fold with_constant l.constants.keys (flat_map large_in (instructions_of (drop l.block-index l.block-items)))
    ≡ fold with_constant l.initial.constants.keys (large_of l.fn.func.content)
