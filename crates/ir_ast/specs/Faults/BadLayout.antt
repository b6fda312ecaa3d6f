-- Layouts: what has no fault of code 13. That each field is an `i64` or a pointer is in its type.
use Rattle.std.specs.Prelude.{◌<◌, length}
use Rattle.std.specs.List.{All}
use Rattle.ir_ast.specs.Modules.{ModuleContent}

abbrev pub LayoutsHaveFields : ModuleContent → Type 0
LayoutsHaveFields content = All (λ layout. 0 < length layout.fields) content.layouts
