-- Names: what has no fault of code 3. Layouts, functions, labels and values are four spaces of names.
use Rattle.std.specs.Prelude.{map}
use Rattle.std.specs.List.{All}
use Rattle.ir_ast.specs.Lists.{Distinct}
use Rattle.ir_ast.specs.Modules.{ModuleContent}
use Rattle.ir_ast.specs.Values.{definitions_of, definition_name}

pub record NamesAreDistinct (content : ModuleContent) : Type 0 where
  pub layouts : Distinct (map (λ layout. layout.name) content.layouts)
  pub functions : Distinct (map (λ func. func.name) content.funcs)
  pub labels : All (λ func. Distinct (map (λ block. block.name) func.blocks)) content.funcs
  pub values : All (λ func. Distinct (map definition_name (definitions_of func))) content.funcs
