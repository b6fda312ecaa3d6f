use Rattle.std.proofs.Common.{◌≡◌, map, take}
use Rattle.entry_groups.proofs.lines.values.Given as goal

abbrev pub invariant-loop-relocate : goal.invariant-loop-relocate
invariant-loop-relocate l = l.values.items ≡ map (λ relocate. relocate.value.0) (take l.relocate-index l.relocates)
