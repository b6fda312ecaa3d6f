-- Worked cases: two nodes of 16 bytes are made at events 2 and 3, between polls; a third isn't made at event 5, where the run traps.
use Rattle.std.proofs.Common.{◌≡◌, refl, [], ◌∷◌}
use Rattle.object_meaning.specs.Traces.{at_new, at_poll}
use Rattle.made_objects.specs.Makings.{makings, makings_from}

two_nodes : makings (at_poll ∷ at_new ∷ at_new ∷ at_poll ∷ []) (16 ∷ 16 ∷ [])
    ≡ record { event = 2; footprint = 16 } ∷ record { event = 3; footprint = 16 } ∷ []
two_nodes = refl

none_at_the_trap : makings (at_poll ∷ at_new ∷ at_new ∷ at_poll ∷ at_new ∷ []) (16 ∷ 24 ∷ [])
    ≡ record { event = 2; footprint = 16 } ∷ record { event = 3; footprint = 24 } ∷ []
none_at_the_trap = refl

-- the number of an event stands still at the last of 64 bits
count_stands_still : makings_from 18446744073709551614 (at_new ∷ at_new ∷ []) (8 ∷ 8 ∷ [])
    ≡ record { event = 18446744073709551615; footprint = 8 } ∷ record { event = 18446744073709551615; footprint = 8 } ∷ []
count_stands_still = refl
