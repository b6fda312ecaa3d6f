-- Places among the instructions of a function, with how many results stand before them.
use Rattle.std.specs.Prelude.{◌≡◌, ℕ, ◌+◌, List, [], ◌∷◌, ◌++◌, drop}
use Rattle.ir_ast.specs.Insts.{Instruction}
use Rattle.ir_ast.specs.Blocks.{BasicBlock}
use Rattle.ir_ast.specs.Funcs.{instructions_of}
use Rattle.print_tables.specs.Names.{result_name}
use Rattle.print_tables.specs.declared.waypoints.Waypoint.{Waypoint}

-- the instructions from the one with this place in the first of these blocks on
abbrev pub instructions_from : List BasicBlock → ℕ → List Instruction
instructions_from [] inst = []
instructions_from (block ∷ blocks) inst = drop inst block.insts ++ instructions_of blocks

-- the rest of the instructions, before which exactly this many results stand
abbrev pub StandBefore : List Instruction → List Instruction → ℕ → Type 0
StandBefore insts rest results = (number : ℕ) → result_name insts (results + number) ≡ result_name rest number

-- exactly so many results as the waypoint says stand before its place
abbrev pub IsWaypoint : List BasicBlock → Waypoint → Type 0
IsWaypoint blocks waypoint =
    StandBefore (instructions_of blocks) (instructions_from (drop waypoint.block blocks) waypoint.inst) waypoint.results
