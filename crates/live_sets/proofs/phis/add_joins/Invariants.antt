use Rattle.std.proofs.Common.{◌≡◌, ℕ, ◌<◌, ◌+◌, ◌++◌, ◌&&◌, if◌then◌else◌, ◌∷◌, [], length, take}
use Rattle.std.specs.Prelude.{slice_index_or}
use Rattle.rewriting_forms.specs.Numbered.{among}
use Rattle.rewriting_forms.specs.Names.{is_many}
use Rattle.live_sets.specs.Starts.{list_at}
use Rattle.live_sets.proofs.phis.add_joins.Given as goal

abbrev pub invariant-loop-node : goal.invariant-loop-node
invariant-loop-node l = record {
  whole : length l.joins.items ≡ length l.initial.joins.items;
  each : (b : ℕ) → b < length l.initial.joins.items
      → list_at l.joins.items b ≡ list_at l.initial.joins.items b
      ++ (if is_many (slice_index_or l.places.fronts b []) && among (length l.initial.joins.items + b) (take l.node-index l.node-items) then l.value ∷ [] else []);
}
