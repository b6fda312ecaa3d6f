-- The longest fronts that the scanning of a token finds.
use Rattle.std.proofs.Common.{◌≡◌, refl, ◌∙◌, ℕ, zero, suc, ◌+◌, ◌<◌, ◌≤◌, ◌≢◌, Bool, true, false, ◌||◌, List, [], ◌∷◌, length, take, arith, cond, Option, None, Some, inl, inr, Fits, w8, get_or}
use Rattle.std.specs.Prelude.{◌==◌, MatchOption, position}
use Rattle.std.specs.List.{list_all, prefix_len, position_or_len}
use Rattle.std.specs.Char.{is_ascii_digit}
use Rattle.std.proofs.Math.Bool.{or-false}
use Rattle.std.proofs.lemmas.Bool.{cases_Bool, eqb-true, cond_above, cond_below, false_from_ne_true}
use Rattle.std.proofs.lemmas.Bool.Decides.{nat_tests}
use Rattle.std.proofs.lemmas.List.Sums.{prefix_len-le-length, position_or_len_is}
use Rattle.memchr.specs.Find.{IsFirstByte}
use Rattle.sp_text.specs.Bytes.{quote, zero_digit, begins_name, in_name}
use Rattle.sp_text.specs.Fronts.{IsLongestFront, HasNoFront}
use Rattle.sp_text.specs.Tokens.{is_nothing, are_digits, is_name, is_bang_end, ends_quote}
use Rattle.sp_text.proofs.Runs.{longest-cons, no_front-cons, no_front-first, run_is_longest}
use Rattle.sp_text.proofs.KindLemmas.{apart, nothing_is_longest}

-- with the lengths that the code counts
pub longest-more : (test inner : List ℕ → Bool) (b : ℕ) (bs : List ℕ) (len : ℕ) → ((cs : List ℕ) → test (b ∷ cs) ≡ inner cs) → IsLongestFront inner bs len → IsLongestFront test (b ∷ bs) (1 + len)
longest-more test inner b bs len same front =
    let one_more : 1 + len ≡ suc len = omega arith in
    rw one_more (longest-cons test inner b bs len same front)

-- names

pub name-zero : (bs : List ℕ) → IsLongestFront is_name (zero_digit ∷ bs) 1
name-zero bs = longest-cons is_name is_nothing zero_digit bs 0 (λ cs. refl) (nothing_is_longest bs)

pub name-digits : (b : ℕ) (bs : List ℕ) → b < 256 → is_ascii_digit b ≡ true → (b == zero_digit) ≡ false → IsLongestFront is_name (b ∷ bs) (1 + prefix_len is_ascii_digit bs)
name-digits b bs small digit other =
    longest-more is_name (list_all is_ascii_digit) b bs _ same (run_is_longest is_ascii_digit bs)
  where
    same : (cs : List ℕ) → is_name (b ∷ cs) ≡ list_all is_ascii_digit cs
    same cs =
        let no_name : begins_name b ≡ false = apart is_ascii_digit begins_name b refl small digit in
        simp (no_name, other, digit)

pub name-plain : (b : ℕ) (bs : List ℕ) → b < 256 → begins_name b ≡ true → IsLongestFront is_name (b ∷ bs) (1 + prefix_len in_name bs)
name-plain b bs small begins =
    longest-more is_name (list_all in_name) b bs _ same (run_is_longest in_name bs)
  where
    same : (cs : List ℕ) → is_name (b ∷ cs) ≡ list_all in_name cs
    same cs =
        let digit : is_ascii_digit b ≡ false = apart begins_name is_ascii_digit b refl small begins in
        let other : (b == zero_digit) ≡ false = apart begins_name (λ n. n == zero_digit) b refl small begins in
        simp (begins, digit, other) (simp or-false)

pub name-none : (b : ℕ) (bs : List ℕ) → is_ascii_digit b ≡ false → begins_name b ≡ false → (b == zero_digit) ≡ false → HasNoFront is_name (b ∷ bs)
name-none b bs digit begins other = no_front-first is_name b bs refl (λ cs. simp (begins, digit, other))

-- digits

pub digits-all : (bs : List ℕ) → prefix_len is_ascii_digit bs ≢ 0 → IsLongestFront are_digits bs (prefix_len is_ascii_digit bs)
digits-all bs some = record {
  within = prefix_len-le-length is_ascii_digit bs;
  passes = at (prefix_len is_ascii_digit bs) bs (omega (arith, some)) (prefix_len-le-length is_ascii_digit bs) ∙ (run_is_longest is_ascii_digit bs).passes;
  longest = λ more longer fits. at more bs (omega arith) fits ∙ (run_is_longest is_ascii_digit bs).longest more longer fits;
}
  where
    at : (len : ℕ) (bs : List ℕ) → 0 < len → len ≤ length bs → are_digits (take len bs) ≡ list_all is_ascii_digit (take len bs)
    at zero bs some fits = absurd (omega arith)
    at (suc len) [] some fits = absurd (omega arith)
    at (suc len) (b ∷ bs) some fits = refl

-- names or digits

or-same : (b : Bool) → (b || b) ≡ b
or-same true = refl
or-same false = refl

pub bang-digits : (b : ℕ) (bs : List ℕ) → b < 256 → is_ascii_digit b ≡ true → IsLongestFront is_bang_end (b ∷ bs) (1 + prefix_len is_ascii_digit bs)
bang-digits b bs small digit =
    longest-more is_bang_end (list_all is_ascii_digit) b bs _ same (run_is_longest is_ascii_digit bs)
  where
    either : (zero_first : Bool) (cs : List ℕ) → (cond zero_first (is_nothing cs) (list_all is_ascii_digit cs) || list_all is_ascii_digit cs) ≡ list_all is_ascii_digit cs
    either true [] = refl
    either true (c ∷ cs) = refl
    either false cs = or-same (list_all is_ascii_digit cs)

    same : (cs : List ℕ) → is_bang_end (b ∷ cs) ≡ list_all is_ascii_digit cs
    same cs =
        let no_name : begins_name b ≡ false = apart is_ascii_digit begins_name b refl small digit in
        rw (no_name, digit) (either (b == zero_digit) cs)

pub bang-plain : (b : ℕ) (bs : List ℕ) → b < 256 → begins_name b ≡ true → IsLongestFront is_bang_end (b ∷ bs) (1 + prefix_len in_name bs)
bang-plain b bs small begins =
    longest-more is_bang_end (list_all in_name) b bs _ same (run_is_longest in_name bs)
  where
    same : (cs : List ℕ) → is_bang_end (b ∷ cs) ≡ list_all in_name cs
    same cs =
        let digit : is_ascii_digit b ≡ false = apart begins_name is_ascii_digit b refl small begins in
        let other : (b == zero_digit) ≡ false = apart begins_name (λ n. n == zero_digit) b refl small begins in
        simp (begins, digit, other) (simp or-false)

pub bang-none : (b : ℕ) (bs : List ℕ) → is_ascii_digit b ≡ false → begins_name b ≡ false → (b == zero_digit) ≡ false → HasNoFront is_bang_end (b ∷ bs)
bang-none b bs digit begins other = no_front-first is_bang_end b bs refl (λ cs. simp (begins, digit, other))

-- no digit is zero
pub not_zero : (b : ℕ) → is_ascii_digit b ≡ false → (b == zero_digit) ≡ false
not_zero b digit = elim (cases_Bool (b == zero_digit)) [
  | inl is ↦ (let e : b ≡ zero_digit = eqb-true b zero_digit is in let clash : true ≡ false = rw e at digit in cc)
  | inr isnt ↦ isnt
]

-- quotes

abbrev pub is_quote : ℕ → Bool
is_quote b = b == quote

pub quote-first : (bs : List ℕ) → position_or_len is_quote bs < length bs → IsLongestFront ends_quote bs (1 + position_or_len is_quote bs)
quote-first [] some = absurd (omega arith)
quote-first (b ∷ bs) some = elim (cases_Bool (is_quote b)) [
  | inl is ↦ (let e : position_or_len is_quote (b ∷ bs) ≡ 0 = simp is in
      rw e (longest-more ends_quote is_nothing b bs 0 (λ cs. simp is) (nothing_is_longest bs)))
  | inr isnt ↦ (let e : position_or_len is_quote (b ∷ bs) ≡ 1 + position_or_len is_quote bs = simp isnt in
      rw e (longest-more ends_quote ends_quote b bs _ (λ cs. simp isnt) (quote-first bs (omega (arith, e)))))
]

pub quote-none : (bs : List ℕ) → length bs ≤ position_or_len is_quote bs → HasNoFront ends_quote bs
quote-none [] none = record { none = λ len fits. nil len }
  where
    nil : (len : ℕ) → ends_quote (take len []) ≡ false
    nil zero = refl
    nil (suc len) = refl
quote-none (b ∷ bs) none = elim (cases_Bool (is_quote b)) [
  | inl is ↦ (let e : position_or_len is_quote (b ∷ bs) ≡ 0 = simp is in absurd (omega (arith, e)))
  | inr isnt ↦ (let e : position_or_len is_quote (b ∷ bs) ≡ 1 + position_or_len is_quote bs = simp isnt in
      no_front-cons ends_quote ends_quote b bs refl (λ cs. simp isnt) (quote-none bs (omega (arith, e))))
]

-- what `position` tells
pub position-tells : (p : ℕ → Bool) (bs : List ℕ) (found : Option ℕ) → found ≡ position p bs → MatchOption found (length bs ≤ position_or_len p bs) (λ at. (at ≡ position_or_len p bs) × (at < length bs))
position-tells p bs None e = grind (arith, nat_tests)
position-tells p bs (Some at) e = grind (arith, nat_tests)

-- the first of a list of bytes is a byte
pub first_small : (bs : List ℕ) (b : ℕ) (rest : List ℕ) → ((i : ℕ) → Fits w8 (get_or bs i 0)) → bs ≡ b ∷ rest → b < 256
first_small bs b rest bytes e = omega (arith, rw e at (bytes 0))

-- what a search for the first byte that passes gives
pub first-position : (p : ℕ → Bool) (bs : List ℕ) (found : Option ℕ) → IsFirstByte p bs found → found ≡ position p bs
first-position p bs None none =
    let len : position_or_len p bs ≡ length bs =
    position_or_len_is p bs (length bs) 0 (omega arith) (λ k below. false_from_ne_true _ (none k (omega arith) below)) (λ past. absurd (omega arith)) in
    cond_above (position_or_len p bs) (length bs) _ _ _ (omega (arith, len)) refl
first-position p bs (Some at) (first, passes) =
    let before = first.before in
    let high = first.high in
    let at_first : position_or_len p bs ≡ at =
    position_or_len_is p bs at 0 (omega arith) (λ k below. false_from_ne_true _ (before k (omega arith) below)) (λ _. passes) in
    rw at_first (cond_below at (length bs) _ _ high)
