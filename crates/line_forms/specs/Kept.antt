-- What a contract sees of a `Kept`.
use Rattle.std.specs.Prelude.{List, []}
use Rattle.line_forms.specs.declared.kept.KeptEntry.{KeptEntry}
use Rattle.line_forms.specs.declared.kept.Held.{Held}
use Rattle.line_forms.specs.declared.kept.Held.TheVariants as held

-- the entries that a call keeps, in order
pub record KeptItems : Type 0 where
  pub items : List KeptEntry

abbrev pub kept_of : List KeptEntry → KeptItems
kept_of entries = record { items = entries }

abbrev pub items_held : Held → KeptItems
items_held held.Nothing = kept_of []
items_held (held.Entries entries) = kept_of entries.value.items
