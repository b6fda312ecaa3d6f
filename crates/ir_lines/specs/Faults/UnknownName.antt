-- Code 4. The line names a value, a label, a function or a layout that there isn't.
use Rattle.std.specs.Prelude.{ℕ, Bool, ◌||◌, List, ◌++◌, is_none}
use Rattle.std.specs.List.{list_any}
use Rattle.ir_lines.specs.Statements.{Line, Statement}
use Rattle.ir_lines.specs.Parts.{values_named, targets, entry_labels, functions_named, layouts_named}
use Rattle.ir_lines.specs.Scope.{Scope, value_named, block_named, head_named, layout_named}
use Rattle.ir_lines.specs.InBody.{InBody}

abbrev pub names_unknown : Scope → Statement → Bool
names_unknown scope what =
    list_any (λ name. is_none (value_named scope name)) (values_named what)
    || list_any (λ name. is_none (block_named scope name)) (targets what ++ entry_labels what)
    || list_any (λ name. is_none (head_named scope name)) (functions_named what)
    || list_any (λ name. is_none (layout_named scope name)) (layouts_named what)

abbrev pub UnknownName : List Line → ℕ → Type 0
UnknownName lines line = InBody lines line names_unknown
