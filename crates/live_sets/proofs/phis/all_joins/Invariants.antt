use Rattle.std.proofs.Common.{◌≡◌, ℕ, ◌<◌, ◌+◌, length, map, filter, take, replicate, false}
use Rattle.rewriting_forms.specs.Numbered.{pointers}
use Rattle.rewriting_forms.specs.Names.{joins_of}
use Rattle.live_sets.specs.Starts.{list_at}
use Rattle.live_sets.proofs.phis.all_joins.Given as goal
use Rattle.ir_ast.specs.Operands.{valued}

abbrev pub invariant-loop-value : goal.invariant-loop-value
invariant-loop-value l = record {
  clear : l.seen.items ≡ replicate (l.count + l.count) false;
  whole : length l.joins.items ≡ length l.func.content.blocks;
  each : (b : ℕ) → b < length l.func.content.blocks
      → list_at l.joins.items b ≡ map valued (filter (joins_of l.func.content l.bases b) (take l.value-index (pointers l.func.content)));
}
