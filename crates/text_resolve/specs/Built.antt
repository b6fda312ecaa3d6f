-- What is found in the definitions of a text.
use Rattle.std.specs.Prelude.{ℕ, List}
use Rattle.ir_ast.specs.declared.modules.Form.{Form}
use Rattle.ir_lines.specs.Statements.{Line}
use Rattle.ir_lines.specs.Sections.{Definition}
use Rattle.ir_lines.specs.Scope.{scope_of}
use Rattle.module_build.specs.Founds.{Found}
use Rattle.text_resolve.specs.Lost.{FunctionLost}

abbrev pub FunctionLostAt : Form → List Line → List Definition → Definition → List Definition → ℕ → ℕ → Type 0
FunctionLostAt form lines before func after = FunctionLost form (scope_of lines func) func

abbrev pub FunctionsLost : Form → List Line → List Definition → ℕ → ℕ → Type 0
FunctionsLost form lines funcs = Found (FunctionLostAt form lines) funcs
