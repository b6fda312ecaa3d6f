-- The two forms of a text.
use Rattle.std.specs.Prelude.{Bool, true, false}
use Rattle.ir_ast.specs.declared.modules.Form.{Form}
use Rattle.ir_ast.specs.declared.modules.Form.TheVariants.{Source, Rewritten}

abbrev pub is_source : Form → Bool
is_source Source = true
is_source Rewritten = false
