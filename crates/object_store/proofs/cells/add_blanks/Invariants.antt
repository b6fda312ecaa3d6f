use Rattle.std.proofs.Common.{◌≡◌, ◌≤◌, ◌++◌, vec_capacity}
use Rattle.object_store.specs.Stored.{blank_words}
use Rattle.object_store.proofs.cells.add_blanks.Given as goal

abbrev pub invariant-loop-element : goal.invariant-loop-element
invariant-loop-element l = record {
  items : l.words.items ≡ l.initial.words.items ++ blank_words l.fields l.element;
  room : vec_capacity l.initial.words ≤ vec_capacity l.words;
}
