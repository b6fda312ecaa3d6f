-- A test that tells names apart, and a name where another takes the place of one.
use Rattle.std.proofs.Common.{◌≡◌, ◌≢◌, ◌⊎◌, inl, inr, Bool, true, false, cond, refl, ap}
use Rattle.std.specs.Bool.{Decides}
use Rattle.phi_webs.specs.Webs.{Tells, replaced}

module _ {A : Type 0} (same : A → A → Bool) (tells : Tells same) where
  by_test : (x y : A) (b : Bool) → Decides b (x ≡ y) → (x ≡ y) ⊎ (x ≢ y)
  by_test x y true decides = inl (decides.0 refl)
  by_test x y false decides = inr (λ h. (let no : false ≡ true = decides.1 h in cc))

  pub same_or_not : (x y : A) → (x ≡ y) ⊎ (x ≢ y)
  same_or_not x y = by_test x y (same x y) (tells x y)

  pub tells_same : (x y : A) → x ≡ y → same x y ≡ true
  tells_same x y h = (tells x y).1 h

  pub tells_other : (x y : A) → x ≢ y → same x y ≡ false
  tells_other x y other = by (same x y) (tells x y)
    where
      by : (b : Bool) → Decides b (x ≡ y) → b ≡ false
      by true decides = absurd (other (decides.0 refl))
      by false decides = refl

  pub replaced_at : (name value n : A) → n ≡ name → replaced same name value n ≡ value
  replaced_at name value n h = ap (λ b. cond b value n) (tells_same n name h)

  pub replaced_beside : (name value n : A) → n ≢ name → replaced same name value n ≡ n
  replaced_beside name value n other = ap (λ b. cond b value n) (tells_other n name other)

  -- what a replacement gives, by cases
  pub replaced_cases : (name value n : A)
      → ((n ≡ name) × (replaced same name value n ≡ value)) ⊎ ((n ≢ name) × (replaced same name value n ≡ n))
  replaced_cases name value n = elim (same_or_not n name) [
    | inl h ↦ inl (h, replaced_at name value n h)
    | inr other ↦ inr (other, replaced_beside name value n other)
  ]
