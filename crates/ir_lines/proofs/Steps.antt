-- One more element of a list from which another one is made, and a fact on each element of a mapped list.
use Rattle.std.proofs.Common.{◌≡◌, ◌∙◌, ℕ, ◌+◌, ◌<◌, List, ◌∷◌, ◌++◌, length, get_or, drop, ap, sym, subst, append_assoc, arith}
use Rattle.std.proofs.lemmas.List.{length-map}
use Rattle.std.proofs.Math.ListN.{get_or-map}
use Rattle.std.specs.Prelude.{map}
use Rattle.list_laws.proofs.Places.{drop_item}
use Rattle.std.specs.List.{All}

-- `make` makes a list piece by piece, and `piece` is that of one element
pub made-more : {A B : Type 0} (make : List A → List B) (piece : A → List B) → ((x : A) (xs : List A) → make (x ∷ xs) ≡ piece x ++ make xs)
    → (xs : List A) (i : ℕ) (x : A) (old new whole : List B) → i < length xs → x ≡ get_or xs i x
    → new ≡ old ++ piece x → old ++ make (drop i xs) ≡ whole → new ++ make (drop (i + 1) xs) ≡ whole
made-more make piece cons xs i x old new whole below is added so_far =
    ap (λ ys. ys ++ make (drop (i + 1) xs)) added ∙ append_assoc old (piece x) (make (drop (i + 1) xs))
    ∙ ap (λ ys. old ++ ys) (sym (ap make (drop_item xs i x below is) ∙ cons x (drop (i + 1) xs))) ∙ so_far

pub all-at : {A B : Type 0} (P : B → Type 0) (f : A → B) (xs : List A) (i : ℕ) (x : A) → All P (map f xs) → i < length xs → x ≡ get_or xs i x → P (f x)
all-at P f xs i x all below is =
    let long = length-map xs f in
    let within : i < length (map f xs) = omega (arith, long) in
    subst P (get_or-map f xs i x ∙ ap f (sym is)) (all i (f x) within)
