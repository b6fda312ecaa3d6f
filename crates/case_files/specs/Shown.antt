-- How parts that were read are seen.
use Rattle.std.specs.Prelude.{map}
use Rattle.case_files.specs.declared.parts.Part.{Part}
use Rattle.case_files.specs.Files.{FilePart, shown_line}

abbrev pub shown_part : Part → FilePart
shown_part part = record { line = part.line; head = part.head.now; body = map shown_line part.body.now }
