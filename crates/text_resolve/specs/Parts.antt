-- The definitions of a text that stands in two parts: the lines outside bodies, and of each of these its body.
use Rattle.std.specs.Prelude.{List, map}
use Rattle.std.specs.Global.{Vec}
use Rattle.ir_reader.specs.declared.raw.NumberedReading.{NumberedReading}
use Rattle.ir_lines.specs.Statements.{Line}
use Rattle.ir_lines.specs.Sections.{Definition}
use Rattle.ir_lines.specs.Parted.{definition_with, definitions_with}
use Rattle.ir_lines.specs.Views.{said, seen_lines}

-- that of a line with this body
abbrev pub headed : NumberedReading → List Line → List Definition
headed line body = definition_with line.line (said line.reading) body

abbrev pub lines_in : List (Vec NumberedReading) → List (List Line)
lines_in bodies = map seen_lines (map (λ body. body.items) bodies)

abbrev pub parted : List NumberedReading → List (Vec NumberedReading) → List Definition
parted outer bodies = definitions_with (seen_lines outer) (lines_in bodies)
