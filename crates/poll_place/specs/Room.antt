-- How many lines a function may have, so that there are numbers for those that are put in.
use Rattle.std.specs.Prelude.{◌<◌, ◌^◌, length}
use Rattle.ir_ast.specs.Funcs.{Function, instructions_of}

abbrev pub HasFewLines : Function → Type 0
HasFewLines func = length (instructions_of func.blocks) < 2 ^ 29
