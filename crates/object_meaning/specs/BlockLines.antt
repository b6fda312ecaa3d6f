-- The lines of a block, by their places: each instruction, and the value that it gives.
use Rattle.std.specs.Prelude.{ℕ, ◌==◌, Bool, false, List, [], take, Option, None, slice_index, slice_index_or}
use Rattle.std.specs.Option.{option_map_or}
use Rattle.ir_ast.specs.declared.types.Ty.TheVariants.{Void}
use Rattle.ir_ast.specs.declared.ops.Op.TheVariants.{Br}
use Rattle.ir_ast.specs.Funcs.{Function, insts_in}
use Rattle.object_meaning.specs.Lines.{Line, registers_of}
use Rattle.object_meaning.specs.TargetRuns.{plain_lines}
use Rattle.object_meaning.specs.Jumps.{phi_count}

abbrev pub lines_at : Function → ℕ → List Line
lines_at func block = plain_lines (slice_index (registers_of func) block) (insts_in func block)

-- a line without a result, for places where there is none
abbrev pub no_line : Line
no_line = record { to = None; inst = record { result = None; op = Br; ty = Void; operands = []; labels = []; bundle = [] } }

abbrev pub line_in : List Line → ℕ → Line
line_in lines place = slice_index_or lines place no_line

abbrev pub is_given : Option ℕ → ℕ → Bool
is_given to value = option_map_or (λ own. own == value) to false

-- the line gives the value
abbrev pub gives : Line → ℕ → Bool
gives line value = is_given line.to value

-- the phis at the front of a block
abbrev pub phis_in : List Line → List Line
phis_in lines = take (phi_count lines) lines
