use Rattle.std.proofs.Common.{◌≡◌, ◌++◌, drop}
use Rattle.std.specs.Prelude.{map}
use Rattle.line_parts.specs.Seen.{seen_type}
use Rattle.ir_lines.specs.Modules.{cell_of}
use Rattle.module_build.proofs.heads.cells_of.Given as goal

abbrev pub invariant-loop-field : goal.invariant-loop-field
invariant-loop-field l =
    l.cells.items ++ map cell_of (map seen_type (drop l.field-index l.fields)) ≡ map cell_of (map seen_type l.fields)
