use Rattle.std.proofs.Common.{◌≡◌, drop}
use Rattle.std.specs.Prelude.{map, length}
use Rattle.line_parts.specs.Seen.{seen_type, seen_argument}
use Rattle.ir_lines.specs.Sections.{types_of}
use Rattle.ir_lines.specs.Types.{same_types}
use Rattle.module_build.proofs.calls.has_types.Given as goal

abbrev pub invariant-loop-parameter : goal.invariant-loop-parameter
invariant-loop-parameter l =
    same_types (types_of (map seen_argument (drop (length l.yielded) l.parameters))) (map seen_type (drop (length l.yielded) l.types))
    ≡ same_types (types_of (map seen_argument l.parameters)) (map seen_type l.types)
