-- The tables of a `Layouts`: one entry for each function, and the return offsets of all functions in one list.
use Rattle.std.specs.Prelude.{ℕ, ◌+◌, ◌≤◌, List, length, take, drop, map}
use Rattle.std.specs.List.{All}
use Rattle.frame_forms.specs.BundleWords.{BundleWords}
use Rattle.frame_forms.specs.ModuleLayouts.{FunctionLayout}
use Rattle.frame_slots.specs.declared.bundles.Bundle.{Bundle}
use Rattle.frame_slots.specs.declared.entries.Entry.{Entry}

-- the return offsets that an entry speaks of
abbrev pub returns_in : List ℕ → Entry → List ℕ
returns_in returns entry = take entry.count (drop entry.first returns)

abbrev pub words_of : Bundle → BundleWords
words_of one = record { place = one.place; words = one.words.items }

abbrev pub layout_in : List ℕ → Entry → FunctionLayout
layout_in returns entry = record {
  address = entry.address;
  frame_bytes = entry.frame_bytes;
  statepoints = entry.statepoints;
  returns = returns_in returns entry;
  bundles = map words_of entry.bundles.items;
}

abbrev pub layouts_in : List ℕ → List Entry → List FunctionLayout
layouts_in returns entries = map (layout_in returns) entries

-- each entry speaks of places of the list
abbrev pub AreWithin : List ℕ → List Entry → Type 0
AreWithin returns entries = All (λ entry. entry.first + entry.count ≤ length returns) entries
