-- The faults of a text but those of paths: its own, and those of the module that it stands for.
use Rattle.std.specs.Prelude.{ℕ, List}
use Rattle.ir_ast.specs.declared.modules.Form.{Form}
use Rattle.ir_lines.specs.Statements.{Line}
use Rattle.ir_resolve.specs.Resolved.{resolved}
use Rattle.ir_resolve.specs.TextFaults.{HasTextFault}
use Rattle.ir_resolve.specs.ModuleFaults.{HasModuleFault}

pub data HasResolvedFault (form : Form) (lines : List Line) (line code : ℕ) : Type 0 where
  of_text : HasTextFault form lines line code → HasResolvedFault form lines line code
  of_module : HasModuleFault (resolved form lines) line code → HasResolvedFault form lines line code

abbrev pub HasNoResolvedFault : Form → List Line → Type 0
HasNoResolvedFault form lines = (line code : ℕ) → ¬ HasResolvedFault form lines line code
