-- Printing and reading back: the printed text of a source or a target module reads and types to that module again.
use Rattle.std.specs.Prelude.{◌≡◌, ◌≤◌, length, List, Ok}
use Rattle.ir_ast.specs.declared.modules.Form.{Form}
use Rattle.ir_ast.specs.Modules.{ModuleContent}
use Rattle.ir_cfg.specs.TypedModules.{IsModuleOf}
use Rattle.ir_printer.specs.Texts.{text_of}
use Rattle.ir_reader.specs.Text.{Numbered, readings_in}
use Rattle.ir_lines.specs.Statements.{lines_of}
use Rattle.ir_lines.specs.Modules.{module_of}
use Rattle.ir_types.specs.FaultSet.{HasNoFault}

-- the text has readings in the form of the module, they have no fault, and they stand for the module
pub record ReadsBack (content : ModuleContent) : Type 0 where
  pub readings : List Numbered
  pub reads : readings_in content.form (text_of content) ≡ Ok readings
  pub no_fault : HasNoFault content.form (lines_of readings)
  pub same : (module_of content.form (lines_of readings)).content ≡ content

-- That each module of a form whose printed text is within the file limit reads back.
abbrev pub EachReadsBack : Form → Type 0
EachReadsBack form = (content : ModuleContent) → IsModuleOf form content → length (text_of content) ≤ 16777216 → ReadsBack content
