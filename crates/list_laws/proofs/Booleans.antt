-- Laws of `&&`, `||` and `not` that the library's `lemmas.Bool` lacks.
use Rattle.std.proofs.Common.{◌≡◌, ◌∙◌, Bool, true, false, refl, sym}
use Rattle.std.specs.Prelude.{◌&&◌, ◌||◌, cond}
use Rattle.std.proofs.lemmas.Bool.{false≢true, and_from}

pub first_true : (x y : Bool) → (x && y) ≡ true → x ≡ true
first_true true y both = refl
first_true false y both = both

pub second_true : (x y : Bool) → (x && y) ≡ true → y ≡ true
second_true true y both = both
second_true false y both = absurd (false≢true both)

pub and_three : (x y z : Bool) → x ≡ true → y ≡ true → z ≡ true → (x && (y && z)) ≡ true
and_three x y z first second third = and_from x (y && z) first (and_from y z second third)

pub and_true : (x : Bool) → (x && true) ≡ x
and_true true = refl
and_true false = refl

pub and_false : (x : Bool) → (x && false) ≡ false
and_false true = refl
and_false false = refl

pub or_false : (x : Bool) → (x || false) ≡ x
or_false true = refl
or_false false = refl

pub or_turn : (x y z : Bool) → (y || (x || z)) ≡ ((x || y) || z)
or_turn true true z = refl
or_turn true false z = refl
or_turn false y z = refl

-- no test passes and fails
pub true_and_false : (x : Bool) → x ≡ true → x ≡ false → ⊥
true_and_false x passes fails = false≢true (sym fails ∙ passes)

-- two tests of which each follows from the other
pub same_tests : (x y : Bool) → (x ≡ true → y ≡ true) → (y ≡ true → x ≡ true) → x ≡ y
same_tests true y there back = sym (there refl)
same_tests false true there back = back refl
same_tests false false there back = refl

pub cond_same : {A : Type 0} (x : Bool) (a : A) → cond x a a ≡ a
cond_same true a = refl
cond_same false a = refl

pub or_assoc : (s t u : Bool) → ((s || t) || u) ≡ (s || (t || u))
or_assoc true t u = refl
or_assoc false t u = refl
