-- Code 14. Names that the externals, LLVM and the rewriting have.
use Rattle.std.specs.Prelude.{◌≡◌, ℕ, List, ◌⊎◌, codes}
use Rattle.std.specs.List.{Contains}
use Rattle.line_parts.specs.Types.{TypeWord}
use Rattle.line_parts.specs.Lists.{Named}
use Rattle.ir_ast.specs.declared.modules.Form.{Form}
use Rattle.ir_ast.specs.declared.modules.Form.TheVariants.{Source}
use Rattle.ir_ast.specs.Lists.{HasFront}
use Rattle.ir_ast.specs.Faults.Reserved.{IsExternalName, IsInsertedName}
use Rattle.ir_lines.specs.Statements.{Line, declare}
use Rattle.ir_lines.specs.Sections.{Definition, Naming, BlockLines, definitions_of, values_of, blocks_of}
use Rattle.ir_lines.specs.Externals.{helpers}

pub data Reserved (form : Form) (lines : List Line) (line : ℕ) : Type 0 where
  -- a definition named as an external
  defines_external : (func : Definition) → Contains (definitions_of lines) func → func.line ≡ line
      → IsExternalName func.name → Reserved form lines line
  -- in the source form, a declaration of what only rewritten modules declare
  declares_helper : form ≡ Source → (answer : TypeWord) (name : List ℕ) (parameters : List Named)
      → Contains lines (record { number = line; says = declare answer name parameters })
      → Contains helpers name ⊎ HasFront (codes "llvm.") name → Reserved form lines line
  -- in the source form, a value or a label named as one that the rewriting inserts
  names_value : form ≡ Source → (func : Definition) (one : Naming) → Contains (definitions_of lines) func → Contains (values_of func) one
      → one.line ≡ line → IsInsertedName one.name → Reserved form lines line
  names_label : form ≡ Source → (func : Definition) (one : BlockLines) → Contains (definitions_of lines) func → Contains (blocks_of func) one
      → one.line ≡ line → IsInsertedName one.name → Reserved form lines line
