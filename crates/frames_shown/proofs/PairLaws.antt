-- The pair that a slot of a frame has: the last one with this derived slot, where there is one.
use Rattle.std.proofs.Common.{◌≡◌, ℕ, zero, suc, ◌==◌, ◌⊎◌, inl, inr, Bool, true, false, List, [], ◌∷◌, refl, Option, Some, None, if◌then◌else◌}
use Rattle.std.specs.Prelude.{slice_get, fold}
use Rattle.std.proofs.lemmas.Bool.{eqb-true, eq-eqb, true≢false}
use Rattle.std.proofs.lemmas.Option.{none-some, same_Some}
use Rattle.frame_walk.specs.Maps.{Pair}
use Rattle.machine_meaning.specs.TrapLines.{pair_at}

pub record IsPairAt (pairs : List Pair) (word : ℕ) (pair : Pair) : Type 0 where
  pub place : ℕ
  pub stands : slice_get pairs place ≡ Some pair
  pub derived : pair.derived ≡ word

abbrev pub HasNone : List Pair → ℕ → Type 0
HasNone pairs word = (place : ℕ) (pair : Pair) → slice_get pairs place ≡ Some pair → pair.derived ≡ word → ⊥

abbrev pick : ℕ → Option Pair → Pair → Option Pair
pick word found pair = if pair.derived == word then Some pair else found

abbrev Picked : ℕ → List Pair → Option Pair → Option Pair → Type 0
Picked word pairs start found = ((found ≡ start) × HasNone pairs word) ⊎ ((pair : Pair) × (found ≡ Some pair) × IsPairAt pairs word pair)

picked : (word : ℕ) (pairs : List Pair) (start : Option Pair) → Picked word pairs start (fold (pick word) start pairs)
picked word [] start = inl (refl, λ place pair is same. none-some pair is)
picked word (first ∷ rest) start = by (first.derived == word) refl (fold (pick word) (if first.derived == word then Some first else start) rest)
    (picked word rest (if first.derived == word then Some first else start))
  where
    none_behind : (first.derived == word) ≡ false → HasNone rest word → HasNone (first ∷ rest) word
    none_behind other none zero pair is same =
        let one : first ≡ pair = same_Some first pair is in
        let equal : first.derived ≡ word = cc in
        true≢false (let e : true ≡ false = cc (eq-eqb first.derived word equal) in e)
    none_behind other none (suc place) pair is same = none place pair is same

    behind : (pair : Pair) → IsPairAt rest word pair → IsPairAt (first ∷ rest) word pair
    behind pair one = record { place = suc one.place; stands = one.stands; derived = one.derived }

    by : (b : Bool) → (first.derived == word) ≡ b → (found : Option Pair) → Picked word rest (if b then Some first else start) found → Picked word (first ∷ rest) start found
    by true is found (inl none) = inr (first, none.0, record { place = 0; stands = refl; derived = eqb-true first.derived word is })
    by true is found (inr one) = inr (one.0, one.1, behind one.0 one.2)
    by false is found (inl none) = inl (none.0, none_behind is none.1)
    by false is found (inr one) = inr (one.0, one.1, behind one.0 one.2)

pub none_at : (pairs : List Pair) (word : ℕ) → HasNone pairs word → pair_at pairs word ≡ None
none_at pairs word none = elim (picked word pairs None) [
  | inl it ↦ it.0
  | inr found ↦ absurd (none found.2.place found.0 found.2.stands found.2.derived)
]

pub record HasPair (pairs : List Pair) (word : ℕ) : Type 0 where
  pub pair : Pair
  pub is : pair_at pairs word ≡ Some pair
  pub one : IsPairAt pairs word pair

-- a slot of some pair has one
pub some_at : (pairs : List Pair) (word place : ℕ) (pair : Pair) → slice_get pairs place ≡ Some pair → pair.derived ≡ word → HasPair pairs word
some_at pairs word place pair stands derived = elim (picked word pairs None) [
  | inl none ↦ absurd (none.1 place pair stands derived)
  | inr found ↦ record { pair = found.0; is = found.1; one = found.2 }
]
