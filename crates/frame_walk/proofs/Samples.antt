-- Records, to see that the definitions say what was meant.
use Rattle.std.proofs.Common.{◌≡◌, ℕ, List, [], ◌∷◌, refl, true, false, pos, neg_ℤ, ℤ}
use Rattle.map_bytes.specs.declared.values.Place.{Place}
use Rattle.frame_walk.specs.Maps.{FrameEntry, deopt_places, pairs_of, usable}

abbrev fixed : ℤ → Place
fixed number = record { kind = 4; size = 8; register = 0; offset = number }

abbrev listed : ℕ → Place
listed place = record { kind = 5; size = 8; register = 0; offset = pos place }

abbrev slot : ℕ → Place
slot offset = record { kind = 3; size = 8; register = 7; offset = pos offset }

-- the record of a frame of three words, which opens with this number of "deopt" locations
abbrev opened : ℤ → List Place → FrameEntry
opened count places = record { frame_bytes = 24; places = fixed (pos 0) ∷ fixed (pos 0) ∷ fixed count ∷ places }

abbrev two : List Place
two = slot 0 ∷ slot 8 ∷ []

-- with none, all slots are those of pairs
none-usable : usable 4 (opened (pos 0) two) ≡ true
none-usable = refl

none-pairs : pairs_of (opened (pos 0) two) ≡ record { base = 0; derived = 1 } ∷ []
none-pairs = refl

-- one leaves an odd number of slots; two leave no pair; there is no third
one-lost : usable 4 (opened (pos 1) two) ≡ false
one-lost = refl

two-usable : usable 4 (opened (pos 2) two) ≡ true
two-usable = refl

two-pairs : pairs_of (opened (pos 2) two) ≡ []
two-pairs = refl

three-lost : usable 4 (opened (pos 3) two) ≡ false
three-lost = refl

less_than_none-lost : usable 4 (opened (neg_ℤ (pos 1)) two) ≡ false
less_than_none-lost = refl

-- the slots of an integer and of a derived pointer, a small number, a listed one, and null
abbrev five : List Place
five = slot 16 ∷ slot 8 ∷ fixed (neg_ℤ (pos 5)) ∷ listed 0 ∷ fixed (pos 0) ∷ []

abbrev shown : FrameEntry
shown = opened (pos 5) (slot 16 ∷ slot 8 ∷ fixed (neg_ℤ (pos 5)) ∷ listed 0 ∷ fixed (pos 0) ∷ slot 0 ∷ slot 0 ∷ slot 0 ∷ slot 8 ∷ [])

shown-usable : usable 4 shown ≡ true
shown-usable = refl

shown-places : deopt_places shown ≡ five
shown-places = refl

shown-pairs : pairs_of shown ≡ record { base = 0; derived = 0 } ∷ record { base = 0; derived = 1 } ∷ []
shown-pairs = refl

-- a constant is no slot of a pair, and a "deopt" location is none of another kind
constant-lost : usable 4 (opened (pos 0) (slot 0 ∷ fixed (pos 8) ∷ [])) ≡ false
constant-lost = refl

register-lost : usable 4 (opened (pos 1) (record (slot 0) { kind = 1 } ∷ [])) ≡ false
register-lost = refl
