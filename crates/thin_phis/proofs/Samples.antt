-- A worked case: of six names the phi at 1 becomes 0 and that at 3 becomes 2; the phi at 4 stays.
use Rattle.std.proofs.Common.{◌≡◌, ℕ, List, [], ◌∷◌, map, refl}
use Rattle.std.specs.List.{filter, flat_map}
use Rattle.thin_phis.specs.Thinned.{stays, number_now}
use Rattle.thin_phis.specs.Runs.{phis_over, behind_phis, left_at, phi_left}

ends : List ℕ
ends = 0 ∷ 0 ∷ 2 ∷ 2 ∷ 4 ∷ 5 ∷ []

new_numbers : map (number_now ends) (0 ∷ 1 ∷ 2 ∷ 3 ∷ 4 ∷ 5 ∷ 9 ∷ []) ≡ 0 ∷ 0 ∷ 1 ∷ 1 ∷ 2 ∷ 3 ∷ 7 ∷ []
unfolding ends
new_numbers = refl

that_stay : filter (stays ends) (0 ∷ 1 ∷ 2 ∷ 3 ∷ 4 ∷ 5 ∷ 9 ∷ []) ≡ 0 ∷ 2 ∷ 4 ∷ 5 ∷ 9 ∷ []
unfolding ends
that_stay = refl

-- a block with the phis 3 and 4 and two edges into it
entries_that_stay : flat_map (phi_left ends) (phis_over 2 (3 ∷ 4 ∷ []) (2 ∷ 3 ∷ 1 ∷ 5 ∷ 7 ∷ [])) ≡ 0 ∷ 3 ∷ []
unfolding ends
entries_that_stay = refl

entries_behind : behind_phis 2 (3 ∷ 4 ∷ []) (2 ∷ 3 ∷ 1 ∷ 5 ∷ 7 ∷ []) ≡ 7 ∷ []
entries_behind = refl

pointers_that_stay : left_at {A = ℕ} (stays ends) (8 ∷ 6 ∷ []) (3 ∷ 4 ∷ []) ≡ 6 ∷ []
unfolding ends
pointers_that_stay = refl
