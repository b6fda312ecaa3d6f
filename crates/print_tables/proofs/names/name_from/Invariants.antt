use Rattle.std.proofs.Common.{◌≡◌, ◌+◌, ◌++◌, drop}
use Rattle.ir_ast.specs.Funcs.{instructions_of}
use Rattle.print_tables.specs.Names.{result_name}
use Rattle.print_tables.specs.Waypoints.{instructions_from}
use Rattle.print_tables.proofs.names.name_from.Given as goal

abbrev pub invariant-loop-inst : goal.invariant-loop-inst
invariant-loop-inst l =
    result_name (instructions_from (drop l.fn.start.block l.fn.blocks) l.fn.start.inst) l.fn.number
    ≡ result_name (drop l.inst-index l.inst-items ++ instructions_of (drop (l.block-index + 1) l.block-items)) l.left

abbrev pub invariant-loop-block : goal.invariant-loop-block
invariant-loop-block l =
    result_name (instructions_from (drop l.fn.start.block l.fn.blocks) l.fn.start.inst) l.fn.number
    ≡ result_name (instructions_from (drop l.block-index l.block-items) l.first) l.left
