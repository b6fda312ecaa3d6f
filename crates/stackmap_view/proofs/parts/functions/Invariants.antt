use Rattle.std.proofs.Common.{◌≡◌, ◌-◌}
use Rattle.stackmap_view.specs.Steps.{functions_at}
use Rattle.stackmap_view.proofs.parts.functions.Given as goal

abbrev pub invariant-functions : goal.invariant-functions
invariant-functions l = functions_at (l.count - l.counter) l.counted l.whole l.rest ≡ functions_at l.count 0 l.whole l.bytes
