use Rattle.std.proofs.Common.{◌≡◌, length, []}
use Rattle.std.specs.List.{All}
use Rattle.version_walk.proofs.forest.empty_lists.Given as goal

abbrev pub invariant-loop : goal.invariant-loop
invariant-loop l = record {
  whole : length l.lists.items ≡ l.counter;
  empty : All (λ list. list.items ≡ []) l.lists.items;
}
