-- A text resolved: the module that its lines stand for, whatever their faults, with the line of each instruction and
-- of each case of a `switch`. An unknown name has the greatest number of 32 bits, which is that of nothing.
use Rattle.std.specs.Prelude.{ℕ, List, [], ◌∷◌, ◌++◌, map, Option, Some, None, slice_get, unwrap_or}
use Rattle.ir_ast.specs.declared.modules.Form.{Form}
use Rattle.ir_ast.specs.Insts.{Instruction}
use Rattle.ir_ast.specs.Modules.{LinedModule}
use Rattle.ir_lines.specs.Statements.{Statement, Line, switch}
use Rattle.ir_lines.specs.Sections.{Definition, definitions_of, cases_of}
use Rattle.ir_lines.specs.Modules.{Known, known_of, instruction_said, module_of}

-- ---- the lines of cases

-- an instruction with its line, and of a `switch` the lines of its cases
pub record Spot : Type 0 where
  pub line : ℕ
  pub cases : List ℕ
  pub inst : Instruction

abbrev pub case_lines : List Line → Statement → List ℕ
case_lines behind (switch width value default) = map (λ l. l.number) (cases_of behind)
case_lines behind _ = []

abbrev pub spot_said : ℕ → List ℕ → Option Instruction → List Spot
spot_said line cases None = []
spot_said line cases (Some inst) = record { line = line; cases = cases; inst = inst } ∷ []

abbrev pub spots_of : Known → List Line → List Spot
spots_of known [] = []
spots_of known (l ∷ ls) = spot_said l.number (case_lines ls l.says) (instruction_said known ls l.says) ++ spots_of known ls

-- ---- the text

pub record Resolved : Type 0 where
  pub whole : LinedModule
  -- of each function, of each of its instructions, the lines of its cases
  pub cases : List (List (List ℕ))

abbrev pub function_cases : List Line → Definition → List (List ℕ)
function_cases lines func = map (λ spot. spot.cases) (spots_of (known_of lines func) func.body)

abbrev pub resolved : Form → List Line → Resolved
resolved form lines = record {
  whole = module_of form lines;
  cases = map (function_cases lines) (definitions_of lines);
}

abbrev pub cases_at : List (List (List ℕ)) → ℕ → ℕ → List ℕ
cases_at cases func place = unwrap_or (slice_get (unwrap_or (slice_get cases func) []) place) []

-- the line of an operand or a label, by its number: each case of a `switch` has its own
abbrev pub part_line : ℕ → List ℕ → ℕ → ℕ
part_line line cases part = unwrap_or (slice_get (line ∷ cases) part) line
