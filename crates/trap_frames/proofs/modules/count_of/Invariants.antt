use Rattle.std.proofs.Common.{◌≡◌, ◌+◌, drop, length}
use Rattle.ir_ast.specs.Funcs.{instructions_of}
use Rattle.trap_frames.proofs.modules.count_of.Given as goal

abbrev pub invariant-loop-block : goal.invariant-loop-block
invariant-loop-block l = l.count + length (instructions_of (drop l.block-index l.blocks)) ≡ length (instructions_of l.blocks)
