-- The values before which lines are inserted, by their kinds.
use Rattle.std.specs.Prelude.{◌≡◌, Bool, ◌||◌, List, map}
use Rattle.base_tables.specs.declared.tables.Flags.{Flags}
use Rattle.base_tables.specs.Kinds.{Kind, kind_merged, kind_negated}

abbrev pub kind_inserted : List Bool → Kind → Bool
kind_inserted marks kind = kind_merged marks kind || kind_negated marks kind

pub record AreFlags (marks : List Bool) (kinds : List Kind) (flags : Flags) : Type 0 where
  pub merged : flags.merged.items ≡ map (kind_merged marks) kinds
  pub negated : flags.negated.items ≡ map (kind_negated marks) kinds
  pub either : flags.either.items ≡ map (kind_inserted marks) kinds
