use Rattle.std.proofs.Common.{◌≡◌, ◌++◌, drop}
use Rattle.std.specs.Prelude.{map}
use Rattle.line_parts.specs.Seen.{seen_passed}
use Rattle.ir_lines.specs.Modules.{given_type}
use Rattle.module_build.proofs.build.types_of.Given as goal

abbrev pub invariant-loop-one : goal.invariant-loop-one
invariant-loop-one l =
    l.types.items ++ map given_type (map seen_passed (drop l.one-index l.passed)) ≡ map given_type (map seen_passed l.passed)
