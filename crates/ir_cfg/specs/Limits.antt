-- The limits that the two kinds of modules share, and the spelling of names.
use Rattle.std.specs.Prelude.{◌≡◌, ℕ, ◌≤◌, true, List, length}
use Rattle.std.specs.List.{All}
use Rattle.sp_text.specs.Tokens.{is_name}
use Rattle.ir_ast.specs.Funcs.{Function}
use Rattle.ir_ast.specs.Modules.{ModuleContent}
use Rattle.ir_ast.specs.Values.{definitions_of, definition_name}

abbrev pub IsName : List ℕ → Type 0
IsName name = is_name name ≡ true

-- the names of a function, its arguments, its results and its blocks are names of texts
pub record HasNames (func : Function) : Type 0 where
  pub own : IsName func.name
  pub values : All (λ given. IsName (definition_name given)) (definitions_of func)
  pub labels : All (λ block. IsName block.name) func.blocks

pub record IsWithinLimits (content : ModuleContent) : Type 0 where
  pub layouts : length content.layouts ≤ 4096
  pub functions : length content.funcs ≤ 4096
  pub layout_names : All (λ layout. length layout.name ≤ 4096) content.layouts
  pub function_names : All (λ func. length func.name ≤ 4096) content.funcs
  pub fields : All (λ layout. length layout.fields ≤ 64) content.layouts
  pub arguments : All (λ func. length func.args ≤ 64) content.funcs

-- the names of the layouts are names of texts
abbrev pub LayoutsHaveNames : ModuleContent → Type 0
LayoutsHaveNames content = All (λ layout. IsName layout.name) content.layouts
