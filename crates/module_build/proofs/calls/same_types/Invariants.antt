use Rattle.std.proofs.Common.{◌≡◌, drop}
use Rattle.std.specs.Prelude.{map}
use Rattle.line_parts.specs.Seen.{seen_argument, seen_passed}
use Rattle.ir_lines.specs.Modules.{passed_type}
use Rattle.ir_lines.specs.Sections.{types_of}
use Rattle.ir_lines.specs.Types.{same_types}
use Rattle.module_build.proofs.calls.same_types.Given as goal

abbrev pub invariant-loop-i : goal.invariant-loop-i
invariant-loop-i l =
    same_types (map passed_type (map seen_passed (drop l.i l.passed))) (types_of (map seen_argument (drop l.i l.parameters)))
    ≡ same_types (map passed_type (map seen_passed l.passed)) (types_of (map seen_argument l.parameters))
