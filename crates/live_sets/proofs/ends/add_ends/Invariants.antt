use Rattle.std.proofs.Common.{◌≡◌, ℕ, ◌<◌, ◌++◌, ◌&&◌, if◌then◌else◌, ◌∷◌, [], length, take}
use Rattle.rewriting_forms.specs.Numbered.{among}
use Rattle.live_sets.specs.Starts.{list_at}
use Rattle.live_sets.proofs.ends.add_ends.Given as goal
use Rattle.ir_ast.specs.Lists.{has_mark}

abbrev pub invariant-loop-node : goal.invariant-loop-node
invariant-loop-node l = record {
  whole : length l.ends.items ≡ length l.initial.ends.items;
  each : (b : ℕ) → b < length l.initial.ends.items
      → list_at l.ends.items b ≡ list_at l.initial.ends.items b ++ (if has_mark l.wanted b && among b (take l.node-index l.node-items) then l.value ∷ [] else []);
}
