use Rattle.std.proofs.Common.{◌+◌, ◌++◌, drop}
use Rattle.std.specs.List.{All}
use Rattle.ir_ast.specs.Funcs.{instructions_of}
use Rattle.print_tables.specs.Waypoints.{StandBefore, IsWaypoint}
use Rattle.print_tables.proofs.waypoints.waypoints_of.Given as goal

abbrev pub invariant-loop-block : goal.invariant-loop-block
invariant-loop-block g l = record {
  all : All (IsWaypoint l.fn.blocks) l.waypoints.items;
  before : StandBefore (instructions_of l.fn.blocks) (instructions_of (drop l.block l.fn.blocks)) l.results;
}

abbrev pub invariant-loop-inst : goal.invariant-loop-inst
invariant-loop-inst g l = record {
  all : All (IsWaypoint l.fn.blocks) l.waypoints.items;
  before : StandBefore (instructions_of l.fn.blocks) (drop l.inst l.line-items ++ instructions_of (drop (l.block + 1) l.fn.blocks)) l.results;
}
