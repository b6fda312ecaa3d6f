-- Truths that are put together and taken apart.
use Rattle.std.proofs.Common.{◌≡◌, ◌∙◌, Bool, true, false, ◌&&◌, refl, ap, sym}

pub never : {A : Type 0} → false ≡ true → A
never e = absurd (let bad : false ≡ true = e in cc)

pub not-true : (b : Bool) → ¬ (b ≡ true) → b ≡ false
not-true true h = absurd (h refl)
not-true false h = refl

pub not-false : (b : Bool) → ¬ (b ≡ false) → b ≡ true
not-false true h = refl
not-false false h = absurd (h refl)
