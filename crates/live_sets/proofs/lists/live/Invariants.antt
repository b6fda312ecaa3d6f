use Rattle.std.proofs.Common.{◌≡◌, ◌≤◌, ◌-◌, length, map}
use Rattle.std.specs.Prelude.{reverse}
use Rattle.std.specs.List.{flat_map, range_with_len}
use Rattle.rewriting_forms.specs.Numbered.{lines_at}
use Rattle.rewriting_forms.specs.Liveness.{lists_from}
use Rattle.live_sets.specs.Lists.{items_of}
use Rattle.live_sets.proofs.lists.live.Given as goal
use Rattle.ir_ast.specs.Operands.{valued}

abbrev pub invariant-loop-number : goal.invariant-loop-number
invariant-loop-number l = record {
  within : l.number ≤ length l.func.content.blocks;
  lists : items_of l.lists.items ≡ reverse (map (map valued) (flat_map (λ b. lists_from l.func.content l.table b 0 (lines_at l.func.content b))
      (range_with_len l.number (length l.func.content.blocks - l.number))));
}

abbrev pub decreases-loop-number : goal.decreases-loop-number
decreases-loop-number l = l.number
