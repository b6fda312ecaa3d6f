-- Small facts of tests, options and lists.
use Rattle.std.proofs.Common.{◌≡◌, ◌∙◌, ◌||◌, ◌++◌, ℕ, Bool, cond, true, false, List, [], ◌∷◌, Option, Some, None, refl, sym, ap, find, is_some, option_and_then, option_map, true≢false}
use Rattle.std.specs.List.{list_any}
use Rattle.std.specs.Str.{bytes_eq}
use Rattle.std.proofs.lemmas.Slice.Eq.{bytes_eq-Decides}
use Rattle.list_laws.proofs.Options.{is_none}

pub some≢none : {X : Type 0} (x : X) → Some x ≡ None → ⊥
some≢none x e = cc

pub and_then_none : {X Y : Type 0} (o : Option X) → option_and_then {T = X} {U = Y} (λ x. None) o ≡ None
and_then_none None = refl
and_then_none (Some x) = refl

pub and_then_some : {X : Type 0} (o : Option X) → option_and_then (λ (x : X). Some x) o ≡ o
and_then_some None = refl
and_then_some (Some x) = refl

pub option_map_none : {X Y : Type 0} (f : X → Y) (o : Option X) → option_map f o ≡ None → o ≡ None
option_map_none f None e = refl
option_map_none f (Some x) e = absurd (some≢none (f x) e)

pub map_some : {X Y : Type 0} (f : X → Y) (o : Option X) → is_some (option_map f o) ≡ is_some o
map_some f None = refl
map_some f (Some x) = refl

-- an element passes where one is found
pub any_is_found : {X : Type 0} (p : X → Bool) (xs : List X) → list_any p xs ≡ is_some (find p xs)
any_is_found p [] = refl
any_is_found p (x ∷ xs) = go (p x) (any_is_found p xs)
  where
    go : (b : Bool) → list_any p xs ≡ is_some (find p xs) → (b || list_any p xs) ≡ is_some (cond b (Some x) (find p xs))
    go true e = refl
    go false e = e

pub find_none : {X : Type 0} (p : X → Bool) (xs : List X) → list_any p xs ≡ false → find p xs ≡ None
find_none p xs none = is_none (find p xs) (sym (any_is_found p xs) ∙ none)

pub find_more : {X : Type 0} (p : X → Bool) (xs : List X) (x : X) → p x ≡ false → find p (xs ++ (x ∷ [])) ≡ find p xs
find_more p [] x fails = rw fails refl
find_more p (y ∷ ys) x fails = ap (λ (o : Option _). cond (p y) (Some y) o) (find_more p ys x fails)

pub find_last : {X : Type 0} (p : X → Bool) (xs : List X) (x : X) → p x ≡ true → find p xs ≡ None → find p (xs ++ (x ∷ [])) ≡ Some x
find_last p [] x passes none = rw passes refl
find_last p (y ∷ ys) x passes none = go (p y) refl (λ h. find_last p ys x passes h)
  where
    go : (b : Bool) → p y ≡ b → (find p ys ≡ None → find p (ys ++ (x ∷ [])) ≡ Some x) → find p ((y ∷ ys) ++ (x ∷ [])) ≡ Some x
    go true e later = absurd (some≢none y (sym (rw e refl) ∙ none))
    go false e later =
        let rest : find p ys ≡ None = sym (rw e refl) ∙ none in
        rw e (later rest)
