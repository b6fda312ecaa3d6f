-- What resolving the lines of a function loses, over what they can name and over the tables of the code.
use Rattle.std.specs.Prelude.{◌≡◌, ◌≢◌, ◌⊎◌, ℕ, List}
use Rattle.ir_ast.specs.declared.modules.Form.{Form}
use Rattle.ir_lines.specs.Statements.{Statement, Line, switch, switch_case}
use Rattle.ir_lines.specs.Sections.{Definition, BlockLines, blocks_of, cases_of}
use Rattle.ir_lines.specs.Scope.{Scope}
use Rattle.ir_lines.specs.Again.{FoundByNames}
use Rattle.ir_lines.specs.Faults.UnknownName.{names_unknown}
use Rattle.ir_lines.specs.Faults.PointerCast.{is_cast}
use Rattle.ir_resolve.specs.TextFaults.{misspells}
use Rattle.module_build.specs.Founds.{Found}
use Rattle.module_build.specs.Lost.{Tables, LostBy, LostIn, miscounts_in}

-- ---- the lines of blocks by themselves

abbrev pub LineLostAt : Form → Tables → List Line → Line → List Line → ℕ → ℕ → Type 0
LineLostAt form tables before here after line code = (line ≡ here.number) × LostIn form tables here.says code

abbrev pub LinesLost : Form → Tables → List Line → ℕ → ℕ → Type 0
LinesLost form tables lines = Found (LineLostAt form tables) lines

abbrev pub BlockLostAt : Form → Tables → List BlockLines → BlockLines → List BlockLines → ℕ → ℕ → Type 0
BlockLostAt form tables before here after = LinesLost form tables here.lines

abbrev pub BlocksLost : Form → Tables → List BlockLines → ℕ → ℕ → Type 0
BlocksLost form tables blocks = Found (BlockLostAt form tables) blocks

-- the same over what the lines can name
abbrev pub Lost : Form → Scope → Statement → ℕ → Type 0
Lost form scope what code = LostBy (names_unknown scope what) (misspells form scope what) (is_cast what) (miscounts_in form what) code

abbrev pub LineLostOf : Form → Scope → List Line → Line → List Line → ℕ → ℕ → Type 0
LineLostOf form scope before here after line code = (line ≡ here.number) × Lost form scope here.says code

abbrev pub BlockLostOf : Form → Scope → List BlockLines → BlockLines → List BlockLines → ℕ → ℕ → Type 0
BlockLostOf form scope before here after = Found (LineLostOf form scope) here.lines

abbrev pub BlocksLostOf : Form → Scope → List BlockLines → ℕ → ℕ → Type 0
BlocksLostOf form scope blocks = Found (BlockLostOf form scope) blocks

-- ---- the cases of a `switch`

abbrev pub IsOtherWidth : ℕ → Statement → Type 0
IsOtherWidth width (switch_case other value to) = other ≢ width
IsOtherWidth width _ = ⊥

abbrev pub OtherWidthAt : ℕ → List Line → Line → List Line → ℕ → ℕ → Type 0
OtherWidthAt width before here after line code = (code ≡ 5) × (line ≡ here.number) × IsOtherWidth width here.says

abbrev pub OtherWidths : ℕ → List Line → ℕ → ℕ → Type 0
OtherWidths width cases = Found (OtherWidthAt width) cases

-- a case of a `switch` that has another width
abbrev pub WidthsBehind : Statement → List Line → ℕ → ℕ → Type 0
WidthsBehind (switch width value default) behind line code = OtherWidths width (cases_of behind) line code
WidthsBehind _ behind line code = ⊥

abbrev pub WidthsAt : List Line → Line → List Line → ℕ → ℕ → Type 0
WidthsAt before here after = WidthsBehind here.says after

abbrev pub BodyWidths : List Line → ℕ → ℕ → Type 0
BodyWidths body = Found WidthsAt body

-- ---- a function

unfoldable pub FunctionLost : Form → Scope → Definition → ℕ → ℕ → Type 0
FunctionLost form scope func line code =
    FoundByNames form func line code ⊎ (BodyWidths func.body line code ⊎ BlocksLostOf form scope (blocks_of func) line code)
