use Rattle.std.proofs.Common.{◌≡◌, ◌-◌}
use Rattle.stackmap_view.specs.Steps.{places_at}
use Rattle.stackmap_view.proofs.parts.places.Given as goal

abbrev pub invariant-places : goal.invariant-places
invariant-places l = places_at l.constants (l.count - l.counter) l.whole l.rest ≡ places_at l.constants l.count l.whole l.bytes
