use Rattle.std.proofs.Common.{◌≡◌, map, take}
use Rattle.ir_ast.specs.Edges.{targets}
use Rattle.ir_cfg.proofs.graphs.edges.Given as goal

abbrev pub invariant-loop-block : goal.invariant-loop-block
invariant-loop-block l = l.rows ≡ map targets (take l.block-index l.block-items)
