use Rattle.std.proofs.Common.{◌≡◌, ◌≤◌, ◌+◌, ◌*◌, length, vec_len, vec_capacity}
use Rattle.std.specs.Prelude.{map}
use Rattle.std.specs.List.{range_with_len}
use Rattle.base_tables.specs.Tables.{marks_before, inserted_in, number_in}
use Rattle.base_tables.proofs.tables.numbered.Given as goal

abbrev pub invariant-loop-mark : goal.invariant-loop-mark
invariant-loop-mark l = record {
  next : l.next ≡ l.mark-index + marks_before l.marks l.mark-index;
  few : l.next ≤ 2 * l.mark-index;
  inserted : l.inserted.items ≡ map (inserted_in l.marks) (range_with_len 0 l.mark-index);
  numbers : l.numbers.items ≡ map (number_in l.marks) (range_with_len 0 l.mark-index);
  len : vec_len l.inserted ≡ l.mark-index;
  room : length l.marks ≤ vec_capacity l.inserted;
  numbers_len : vec_len l.numbers ≡ l.mark-index;
  numbers_room : length l.marks ≤ vec_capacity l.numbers;
}
