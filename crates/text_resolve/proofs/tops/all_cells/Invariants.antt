use Rattle.std.proofs.Common.{◌≡◌, drop}
use Rattle.std.specs.Prelude.{map}
use Rattle.std.specs.List.{list_all}
use Rattle.line_parts.specs.Seen.{seen_type}
use Rattle.ir_lines.specs.Types.{is_cell}
use Rattle.text_resolve.proofs.tops.all_cells.Given as goal

abbrev pub invariant-loop-field : goal.invariant-loop-field
invariant-loop-field l = list_all is_cell (map seen_type (drop l.field-index l.fields)) ≡ list_all is_cell (map seen_type l.fields)
