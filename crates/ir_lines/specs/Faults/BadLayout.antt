-- Code 13. A layout without fields, or with a field that is no cell.
use Rattle.std.specs.Prelude.{ℕ, Bool, false, not, ◌&&◌, ◌==◌, List, length}
use Rattle.std.specs.List.{list_all}
use Rattle.line_parts.specs.Types.{TypeWord}
use Rattle.ir_lines.specs.Statements.{Line, Statement, layout}
use Rattle.ir_lines.specs.Types.{is_cell}
use Rattle.ir_lines.specs.InBody.{InText}

abbrev pub are_cells : List TypeWord → Bool
are_cells fields = not (length fields == 0) && list_all is_cell fields

abbrev pub is_bad_layout : Statement → Bool
is_bad_layout (layout name fields) = not (are_cells fields)
is_bad_layout _ = false

abbrev pub BadLayout : List Line → ℕ → Type 0
BadLayout lines line = InText lines line is_bad_layout
