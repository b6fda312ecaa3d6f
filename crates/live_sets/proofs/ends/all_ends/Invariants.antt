use Rattle.std.proofs.Common.{◌≡◌, ℕ, ◌<◌, ◌+◌, length, map, filter, take, replicate, true, false}
use Rattle.rewriting_forms.specs.Numbered.{pointers}
use Rattle.live_sets.specs.Starts.{list_at}
use Rattle.live_sets.specs.Ends.{lives_at_end}
use Rattle.live_sets.proofs.ends.all_ends.Given as goal
use Rattle.ir_ast.specs.Operands.{valued}
use Rattle.ir_ast.specs.Lists.{has_mark}

abbrev pub invariant-loop-value : goal.invariant-loop-value
invariant-loop-value l = record {
  clear : l.seen.items ≡ replicate (l.count + l.count) false;
  whole : length l.ends.items ≡ length l.func.content.blocks;
  each : (b : ℕ) → b < length l.func.content.blocks → has_mark l.wanted b ≡ true
      → list_at l.ends.items b ≡ map valued (filter (lives_at_end l.func.content l.bases b) (take l.value-index (pointers l.func.content)));
}
