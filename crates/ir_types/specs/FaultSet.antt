-- The faults of a text of a form, and the least of them: its own, which resolving loses, those of the module that it stands
-- for, and those of paths.
use Rattle.std.specs.Prelude.{ℕ, List}
use Rattle.ir_ast.specs.declared.modules.Form.{Form}
use Rattle.ir_lines.specs.Statements.{Line}
use Rattle.ir_lines.specs.FaultOrder.{ComesFirst}
use Rattle.ir_resolve.specs.FaultSet.{HasResolvedFault, HasNoResolvedFault}
use Rattle.ir_types.specs.Faults.NotDefinite.{NotDefinite}

-- the set: a line and a code. Paths are judged where there is no other fault, so that they are those of whole functions.
pub data HasFault (form : Form) (lines : List Line) (line : ℕ) : ℕ → Type 0 where
  plain : (code : ℕ) → HasResolvedFault form lines line code → HasFault form lines line code
  not_definite : HasNoResolvedFault form lines → NotDefinite form lines line → HasFault form lines line 8

pub record IsLeastFault (form : Form) (lines : List Line) (line code : ℕ) : Type 0 where
  pub is : HasFault form lines line code
  pub least : (other_line other_code : ℕ) → HasFault form lines other_line other_code → ComesFirst line code other_line other_code

abbrev pub HasNoFault : Form → List Line → Type 0
HasNoFault form lines = (line code : ℕ) → ¬ HasFault form lines line code
