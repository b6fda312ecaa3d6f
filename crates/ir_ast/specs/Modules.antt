-- What a contract sees of a `Module`: its content, and the lines of its functions beside it.
use Rattle.std.specs.Prelude.{ℕ, List, [], slice_get, slice_index, unwrap_or}
use Rattle.ir_ast.specs.declared.modules.Form.{Form}
use Rattle.ir_ast.specs.Layouts.{ObjectLayout}
use Rattle.ir_ast.specs.Funcs.{Function}

pub record ModuleContent : Type 0 where
  pub layouts : List ObjectLayout
  pub funcs : List Function
  pub form : Form

pub record LinedModule : Type 0 where
  pub content : ModuleContent
  pub lines : List (List ℕ)

-- the line at a place of a function, or 0 where there is none
abbrev pub line_at : List (List ℕ) → ℕ → ℕ → ℕ
line_at lines func place = slice_index (unwrap_or (slice_get lines func) []) place
