use Rattle.std.proofs.Common.{◌≡◌, ◌-◌}
use Rattle.stackmap_view.specs.Steps.{live_outs_at}
use Rattle.stackmap_view.proofs.parts.live_outs.Given as goal

abbrev pub invariant-live_outs : goal.invariant-live_outs
invariant-live_outs l = live_outs_at (l.count - l.counter) l.whole l.rest ≡ live_outs_at l.count l.whole l.bytes
