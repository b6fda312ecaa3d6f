-- The instructions of a function, their lines and those of their cases.
use Rattle.std.specs.Prelude.{ℕ, List, [], slice_get, slice_index, unwrap_or}
use Rattle.ir_ast.specs.Insts.{Instruction}
use Rattle.ir_ast.specs.Funcs.{LinedFunction, instructions_of}

abbrev pub insts_of : LinedFunction → List Instruction
insts_of func = instructions_of func.content.blocks

abbrev pub line_in : LinedFunction → ℕ → ℕ
line_in func place = slice_index func.lines place

-- the lines of the cases of the instruction at a place
abbrev pub cases_in : List (List ℕ) → ℕ → List ℕ
cases_in cases place = unwrap_or (slice_get cases place) []
