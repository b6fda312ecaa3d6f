use Rattle.std.proofs.Common.{◌≡◌, drop}
use Rattle.std.specs.Prelude.{map}
use Rattle.line_parts.specs.Seen.{seen_type, seen_argument}
use Rattle.ir_lines.specs.Sections.{types_of}
use Rattle.ir_lines.specs.Types.{same_types}
use Rattle.module_build.proofs.calls.are_types_of.Given as goal

abbrev pub invariant-loop-i : goal.invariant-loop-i
invariant-loop-i l =
    same_types (map seen_type (drop l.i l.types)) (types_of (map seen_argument (drop l.i l.parameters)))
    ≡ same_types (map seen_type l.types) (types_of (map seen_argument l.parameters))
