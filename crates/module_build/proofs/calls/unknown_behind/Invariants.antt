use Rattle.std.proofs.Common.{◌≡◌, drop}
use Rattle.std.specs.Prelude.{map, filter_map}
use Rattle.line_parts.specs.Seen.{seen_passed}
use Rattle.ir_lines.specs.Parts.{passed_function}
use Rattle.module_build.specs.Lost.{after_names}
use Rattle.module_build.proofs.calls.unknown_behind.Given as goal

abbrev pub invariant-loop-one : goal.invariant-loop-one
invariant-loop-one l =
    after_names l.names l.unknown (filter_map passed_function (map seen_passed (drop l.one-index l.passed)))
    ≡ after_names l.names l.initial.unknown (filter_map passed_function (map seen_passed l.passed))
