-- The longest fronts of a list.
use Rattle.std.proofs.Common.{◌≡◌, refl, ◌∙◌, ℕ, zero, suc, ◌+◌, ◌<◌, ◌≤◌, Bool, true, false, List, [], ◌∷◌, length, take, arith, cond}
use Rattle.std.specs.List.{list_all, prefix_len}
use Rattle.std.proofs.lemmas.List.Sums.{prefix_len-le-length, prefix_len_stops}
use Rattle.std.proofs.lemmas.List.Folds.{list_all_at}
use Rattle.std.proofs.lemmas.List.{get_or-take, length-take-le}
use Rattle.sp_text.specs.Fronts.{IsLongestFront, HasNoFront}

-- the first elements that pass do pass
pub list_all-prefix : (p : ℕ → Bool) (xs : List ℕ) → list_all p (take (prefix_len p xs) xs) ≡ true
list_all-prefix p [] = refl
list_all-prefix p (x ∷ xs) = by (p x) refl (list_all-prefix p xs)
  where
    by : (v : Bool) → p x ≡ v → list_all p (take (prefix_len p xs) xs) ≡ true → list_all p (take (cond v (1 + prefix_len p xs) 0) (x ∷ xs)) ≡ true
    by true e more =
        let one_more : 1 + prefix_len p xs ≡ suc (prefix_len p xs) = omega arith in
        rw (one_more, e) more
    by false e more = refl

-- any more don't
pub list_all-longer : (p : ℕ → Bool) (xs : List ℕ) (more : ℕ) → prefix_len p xs < more → more ≤ length xs → list_all p (take more xs) ≡ false
list_all-longer p xs more longer fits =
    list_all_at p (take more xs) (prefix_len p xs) 0 (rw length-take-le longer)
    (rw get_or-take (prefix_len_stops p xs 0 (omega arith)))

-- a run is the longest front of which each byte passes
pub run_is_longest : (p : ℕ → Bool) (xs : List ℕ) → IsLongestFront (list_all p) xs (prefix_len p xs)
run_is_longest p xs = record {
  within = prefix_len-le-length p xs;
  passes = list_all-prefix p xs;
  longest = list_all-longer p xs;
}

-- one more byte in front
pub longest-cons : (test inner : List ℕ → Bool) (b : ℕ) (bs : List ℕ) (len : ℕ) → ((cs : List ℕ) → test (b ∷ cs) ≡ inner cs) → IsLongestFront inner bs len → IsLongestFront test (b ∷ bs) (suc len)
longest-cons test inner b bs len same front = record {
  within = omega (arith, front.within);
  passes = same (take len bs) ∙ front.passes;
  longest = longer;
}
  where
    longer : (more : ℕ) → suc len < more → more ≤ length (b ∷ bs) → test (take more (b ∷ bs)) ≡ false
    longer zero h fits = absurd (omega arith)
    longer (suc more) h fits = same (take more bs) ∙ front.longest more (omega arith) (omega arith)

pub no_front-cons : (test inner : List ℕ → Bool) (b : ℕ) (bs : List ℕ) → test [] ≡ false → ((cs : List ℕ) → test (b ∷ cs) ≡ inner cs) → HasNoFront inner bs → HasNoFront test (b ∷ bs)
no_front-cons test inner b bs empty same front = record { none = none }
  where
    none : (len : ℕ) → len ≤ length (b ∷ bs) → test (take len (b ∷ bs)) ≡ false
    none zero fits = empty
    none (suc len) fits = same (take len bs) ∙ front.none len (omega arith)

-- where no byte may stand first
pub no_front-first : (test : List ℕ → Bool) (b : ℕ) (bs : List ℕ) → test [] ≡ false → ((cs : List ℕ) → test (b ∷ cs) ≡ false) → HasNoFront test (b ∷ bs)
no_front-first test b bs empty fails = no_front-cons test (λ _. false) b bs empty fails (record { none = λ _ _. refl })
