use Rattle.std.proofs.Common.{◌≡◌, ◌+◌, drop}
use Rattle.ir_ast.specs.Funcs.{instructions_of}
use Rattle.stackmap_write.specs.Sizes.{records_size}
use Rattle.stackmap_write.proofs.sizes.records_size.Given as goal

abbrev pub invariant-loop-block : goal.invariant-loop-block
invariant-loop-block l = l.size + records_size (instructions_of (drop l.block-index l.block-items)) ≡ records_size (instructions_of l.fn.func.content.blocks)
