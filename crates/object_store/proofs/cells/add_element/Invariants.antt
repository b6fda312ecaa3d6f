use Rattle.std.proofs.Common.{◌≡◌, ◌≤◌, ◌++◌, take, map, vec_capacity}
use Rattle.object_store.specs.Stored.{blank_word}
use Rattle.object_store.proofs.cells.add_element.Given as goal

abbrev pub invariant-loop-field : goal.invariant-loop-field
invariant-loop-field l = record {
  items : l.words.items ≡ l.initial.words.items ++ map blank_word (take l.field-index l.fields);
  room : vec_capacity l.initial.words ≤ vec_capacity l.words;
}
