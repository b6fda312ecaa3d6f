-- Webs whose removals are computed from the definitions.
use Rattle.std.proofs.Common.{◌≡◌, ℕ, ◌==◌, List, [], ◌∷◌, map, refl}
use Rattle.phi_webs.specs.Webs.{Phi}
use Rattle.phi_webs.specs.Becomes.{becomes}

abbrev phi : ℕ → List ℕ → Phi ℕ
phi name operands = record { name = name; operands = operands }

abbrev end : List (Phi ℕ) → List ℕ → List ℕ
end web names = map (becomes (λ x y. x == y) web) names

-- the branches of a diamond bring the same, and a loop brings nothing new
same_twice : end (phi 5 (1 ∷ 1 ∷ []) ∷ phi 6 (5 ∷ 6 ∷ []) ∷ []) (1 ∷ 5 ∷ 6 ∷ 9 ∷ []) ≡ 1 ∷ 1 ∷ 1 ∷ 9 ∷ []
same_twice = refl

-- one of two further names doesn't take the place
two_others : end (phi 5 (1 ∷ 2 ∷ []) ∷ phi 6 (5 ∷ 6 ∷ []) ∷ []) (5 ∷ 6 ∷ []) ≡ 5 ∷ 5 ∷ []
two_others = refl

-- what the first phi needs goes last: a nest of two loops
nest : end (phi 5 (1 ∷ 6 ∷ []) ∷ phi 6 (5 ∷ 6 ∷ []) ∷ []) (5 ∷ 6 ∷ []) ≡ 1 ∷ 1 ∷ []
nest = refl

-- two phis that use each other and one further name stay
each_other : end (phi 5 (1 ∷ 6 ∷ []) ∷ phi 6 (5 ∷ 1 ∷ []) ∷ []) (5 ∷ 6 ∷ []) ≡ 5 ∷ 6 ∷ []
each_other = refl

-- a phi that has no other operand than itself stays
no_other : end (phi 5 (5 ∷ 5 ∷ []) ∷ []) (5 ∷ []) ≡ 5 ∷ []
no_other = refl
