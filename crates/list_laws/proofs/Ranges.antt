-- Lists of numbers in a row.
use Rattle.std.proofs.Common.{◌≡◌, ◌∙◌, ℕ, zero, suc, ◌+◌, ◌<◌, List, [], ◌∷◌, ◌++◌, ap, arith, Some, slice_get}
use Rattle.std.specs.List.{range_with_len, Contains}
use Rattle.list_laws.proofs.Contents.{contains_get}

pub range_get : (from count k : ℕ) → k < count → slice_get (range_with_len from count) k ≡ Some (from + k)
range_get from zero k below = absurd (omega arith)
range_get from (suc count) zero below = let e : from ≡ from + 0 = omega arith in ap Some e
range_get from (suc count) (suc k) below = let e : (from + 1) + k ≡ from + suc k = omega arith in range_get (from + 1) count k (omega arith) ∙ ap Some e

pub range_back : (from count k x : ℕ) → slice_get (range_with_len from count) k ≡ Some x → x ≡ from + k
range_back from zero k x is = absurd cc
range_back from (suc count) zero x is = let e : from ≡ x = cc in omega arith
range_back from (suc count) (suc k) x is = let h = range_back (from + 1) count k x is in omega (arith, h)

pub range_append : (from one other : ℕ) → range_with_len from (one + other) ≡ range_with_len from one ++ range_with_len (from + one) other
range_append from zero other =
    let z : 0 + other ≡ other = omega arith in
    let e : from ≡ from + 0 = omega arith in
    ap (range_with_len from) z ∙ ap (λ (m : ℕ). range_with_len m other) e
range_append from (suc one) other =
    let s : suc one + other ≡ suc (one + other) = omega arith in
    let e : (from + 1) + one ≡ from + suc one = omega arith in
    ap (range_with_len from) s ∙ ap (λ (xs : List ℕ). from ∷ xs) (range_append (from + 1) one other)
    ∙ ap (λ (m : ℕ). from ∷ (range_with_len (from + 1) one ++ range_with_len m other)) e

pub range_more : (from count : ℕ) → range_with_len from (count + 1) ≡ range_with_len from count ++ (from + count) ∷ []
range_more from count = range_append from count 1

pub range_contains : (count k : ℕ) → k < count → Contains (range_with_len 0 count) k
range_contains count k below =
    let e : 0 + k ≡ k = omega arith in
    contains_get (range_with_len 0 count) k k (range_get 0 count k below ∙ ap Some e)
