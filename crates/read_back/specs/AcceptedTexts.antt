-- What a text that is accepted stands for.
use Rattle.std.specs.Prelude.{◌≡◌, ◌≤◌, ℕ, List, length, Ok}
use Rattle.ir_ast.specs.declared.modules.Form.{Form}
use Rattle.ir_cfg.specs.TypedModules.{IsModuleOf}
use Rattle.ir_lines.specs.Modules.{module_of}
use Rattle.ir_lines.specs.Statements.{lines_of}
use Rattle.ir_reader.specs.Text.{Numbered, readings_in}
use Rattle.ir_types.specs.FaultSet.{HasNoFault}

-- the module of each text within the file limit that has readings in the form, whose lines have no fault
abbrev pub AcceptedIsOf : Form → Type 0
AcceptedIsOf form = (text : List ℕ) (readings : List Numbered) → length text ≤ 16777216 → readings_in form text ≡ Ok readings
    → HasNoFault form (lines_of readings)
    → IsModuleOf form (module_of form (lines_of readings)).content
