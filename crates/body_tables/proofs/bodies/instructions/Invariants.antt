use Rattle.std.proofs.Common.{◌≡◌, take}
use Rattle.ir_ast.specs.Funcs.{instructions_of}
use Rattle.body_tables.specs.Bodies.{seen_insts}
use Rattle.body_tables.proofs.bodies.instructions.Given as goal

abbrev pub invariant-loop-block : goal.invariant-loop-block
invariant-loop-block l = seen_insts l.insts.items ≡ instructions_of (take l.block-index l.block-items)
