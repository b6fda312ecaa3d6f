-- Code 8: a use that some path from the entry reaches without the definition. An entry of a phi is a use at the end
-- of its label's block, and stands at the phi's line.
use Rattle.std.specs.Prelude.{◌≡◌, ℕ, List, Some, slice_get}
use Rattle.ir_ast.specs.declared.modules.Form.{Form}
use Rattle.ir_ast.specs.Funcs.{Function}
use Rattle.ir_ast.specs.Modules.{line_at}
use Rattle.definite_assign.specs.Faults.{HasMissedUse}
use Rattle.ir_lines.specs.Statements.{Line}
use Rattle.ir_lines.specs.Modules.{module_of}

-- the line is that of an instruction of the module with such a use
pub record NotDefinite (form : Form) (lines : List Line) (line : ℕ) : Type 0 where
  pub number : ℕ
  pub func : Function
  pub stands : slice_get (module_of form lines).content.funcs number ≡ Some func
  pub place : ℕ
  pub missed : HasMissedUse func place
  pub at : line ≡ line_at (module_of form lines).lines number place
