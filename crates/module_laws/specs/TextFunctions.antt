-- What a function of a module that a text stands for has besides what its form asks.
use Rattle.std.specs.Prelude.{◌<◌, ◌^◌, length}
use Rattle.ir_ast.specs.Funcs.{Function, instructions_of}

-- a text within the file limit has at most 16,777,217 lines, and two of them are no instructions of a function
abbrev pub HasFewInstructions : Function → Type 0
HasFewInstructions func = length (instructions_of func.blocks) < 2 ^ 24
