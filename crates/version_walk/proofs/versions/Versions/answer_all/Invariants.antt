use Rattle.std.proofs.Common.{◌≡◌, ◌≤◌, ◌+◌, ◌++◌, length, take, drop}
use Rattle.version_walk.specs.Slots.{answered, current_behind}
use Rattle.version_walk.specs.Versions.{IsLogged}
use Rattle.version_walk.proofs.versions.Versions.answer_all.Given as goal

abbrev pub invariant-loop-place : goal.invariant-loop-place
invariant-loop-place l = record {
  row : answered l.initial.self.current.items l.start l.initial.row.items ≡ take l.place l.row.items ++ answered l.self.current.items l.next (drop l.place l.row.items);
  current : current_behind l.initial.self.current.items l.start l.initial.row.items ≡ current_behind l.self.current.items l.next (drop l.place l.row.items);
  log : IsLogged l.initial.self l.self;
  whole : length l.row.items ≡ length l.initial.row.items;
  room : l.next ≤ l.start + l.place;
}
