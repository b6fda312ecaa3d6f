use Rattle.std.proofs.Common.{◌≡◌, drop}
use Rattle.std.specs.Prelude.{map}
use Rattle.std.specs.List.{list_all}
use Rattle.line_parts.specs.Groups.{is_value_given}
use Rattle.line_parts.specs.Seen.{seen_passed}
use Rattle.line_parts.proofs.passing.are_values.Given as goal

abbrev pub invariant-loop-one : goal.invariant-loop-one
invariant-loop-one l = list_all is_value_given (map seen_passed (drop l.one-index l.passed)) ≡ list_all is_value_given (map seen_passed l.passed)
