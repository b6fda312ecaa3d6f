-- The numbers of the rules, as reports name them.
use Rattle.std.specs.Prelude.{ℕ}
use Rattle.map_bytes.specs.declared.rules.MapRule.{MapRule}
use Rattle.map_bytes.specs.declared.rules.MapRule.TheVariants.{Short, BadVersion, BadReserved, BadCount, BadKind, Trailing}

abbrev pub rule_code : MapRule → ℕ
rule_code Short = 1
rule_code BadVersion = 2
rule_code BadReserved = 3
rule_code BadCount = 4
rule_code BadKind = 5
rule_code Trailing = 6
