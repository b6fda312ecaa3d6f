-- The lines of the cases of the instructions of lines.
use Rattle.std.specs.Prelude.{ℕ, List, [], ◌∷◌, ◌++◌, if◌then◌else◌}
use Rattle.ir_lines.specs.Statements.{Statement, Line}
use Rattle.ir_lines.specs.ReadLines.{is_instruction}
use Rattle.ir_resolve.specs.Resolved.{case_lines}

-- of a line, where it is an instruction
abbrev pub row_said : List Line → Statement → List (List ℕ)
row_said behind what = if is_instruction what then case_lines behind what ∷ [] else []

abbrev pub rows_of : List Line → List (List ℕ)
rows_of [] = []
rows_of (l ∷ ls) = row_said ls l.says ++ rows_of ls
