use Rattle.std.proofs.Common.{◌≡◌, drop}
use Rattle.std.specs.Prelude.{map, false}
use Rattle.std.specs.List.{list_all}
use Rattle.line_parts.specs.Lists.{is_argument_type}
use Rattle.line_parts.specs.Seen.{seen_type}
use Rattle.line_parts.proofs.passing.are_value_types.Given as goal

abbrev pub invariant-loop-ty : goal.invariant-loop-ty
invariant-loop-ty l = list_all (is_argument_type false) (map seen_type (drop l.ty-index l.types)) ≡ list_all (is_argument_type false) (map seen_type l.types)
