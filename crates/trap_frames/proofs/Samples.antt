-- A frame that waits, to see that the definitions say what was meant.
use Rattle.std.proofs.Common.{◌≡◌, ℕ, List, [], ◌∷◌, ◌++◌, codes, decimal, map, refl, Some, None, ℤ, pos, negsuc}
use Rattle.std.specs.Fmt.{signed_decimal}
use Rattle.map_bytes.specs.declared.values.Place.{Place}
use Rattle.moving_heap.specs.declared.stands.Stand.{Stand}
use Rattle.frame_walk.specs.Maps.{FrameEntry, deopt_places, pairs_of}
use Rattle.machine_meaning.specs.TrapLines.{shown_at}
use Rattle.trap_frames.specs.Bases.{base_in}

abbrev fixed : ℤ → Place
fixed number = record { kind = 4; size = 8; register = 0; offset = number }

abbrev slot : ℕ → Place
slot offset = record { kind = 3; size = 8; register = 7; offset = pos offset }

-- a frame of three words; of its four "deopt" locations the last is the derived slot of its pair
abbrev one : FrameEntry
one = record {
  frame_bytes = 24;
  places = fixed (pos 0) ∷ fixed (pos 0) ∷ fixed (pos 4)
      ∷ fixed (negsuc 6) ∷ record { kind = 5; size = 8; register = 0; offset = pos 0 } ∷ slot 16 ∷ slot 8 ∷ slot 0 ∷ slot 8 ∷ [];
}

abbrev stands : List Stand
stands = record { number = 3; size = 16; address = 4096 } ∷ []

abbrev words : List ℕ
words = 4096 ∷ 4104 ∷ 18446744073709551615 ∷ []

shown : map (shown_at (12 ∷ []) stands words (pairs_of one)) (deopt_places one) ≡ signed_decimal (negsuc 6) ∷ signed_decimal (pos 12) ∷ signed_decimal (negsuc 0) ∷ (decimal 3 ++ codes "+" ++ decimal 8) ∷ []
shown = refl

-- without the object it is a number
unheld : map (shown_at (12 ∷ []) [] words (pairs_of one)) (deopt_places one) ≡ signed_decimal (negsuc 6) ∷ signed_decimal (pos 12) ∷ signed_decimal (negsuc 0) ∷ signed_decimal (pos 4104) ∷ []
unheld = refl

-- a table of three words, whose middle one has base slot 0
based : map (base_in (0 ∷ 1 ∷ 0 ∷ [])) (0 ∷ 1 ∷ 2 ∷ 3 ∷ []) ≡ None ∷ Some 0 ∷ None ∷ None ∷ []
based = refl
