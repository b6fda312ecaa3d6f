-- A test of all elements, over a list that another one maps to.
use Rattle.std.proofs.Common.{◌≡◌, Bool, ◌&&◌, List, [], ◌∷◌, refl, ap}
use Rattle.std.specs.Prelude.{map}
use Rattle.std.specs.List.{list_all}

pub all_of_map : {A B : Type 0} (test : B → Bool) (f : A → B) (xs : List A) → list_all test (map f xs) ≡ list_all (λ x. test (f x)) xs
all_of_map test f [] = refl
all_of_map test f (x ∷ xs) = ap (λ (b : Bool). test (f x) && b) (all_of_map test f xs)
