use Rattle.std.proofs.Common.{◌≡◌, ◌+◌, ◌<◌, ◌^◌, drop, length}
use Rattle.ir_ast.specs.Funcs.{instructions_of}
use Rattle.ssa_rebuild.proofs.functions.are_few.Given as goal

abbrev pub invariant-loop-block : goal.invariant-loop-block
invariant-loop-block l = record {
  few : l.count < 2 ^ 30;
  whole : l.count + length (instructions_of (drop l.block-index l.blocks)) ≡ length (instructions_of l.blocks);
}
