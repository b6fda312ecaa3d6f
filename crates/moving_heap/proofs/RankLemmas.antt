-- Ranks: how many objects stand less one in the order of addresses.
use Rattle.std.proofs.Common.{◌≡◌, ℕ, zero, suc, ◌+◌, ◌<◌, ◌≤◌, ◌≢◌, Bool, true, false, List, [], ◌∷◌, length, get_or, refl, sym, ap, ◌∙◌, arith, cond, eqb, ltb, Some, None}
use Rattle.std.specs.Prelude.{slice_get}
use Rattle.std.specs.List.Sorted.{IsPermutation, IsNonDecreasingBy}
use Rattle.std.proofs.lemmas.Bool.{eqb-true, eq-eqb, ne_eqb, lt-ltb, le-ltb}
use Rattle.std.proofs.lemmas.List.Sums.{sum_by-cons}
use Rattle.std.proofs.lemmas.List.Sorted.{IsPermutation-sym, sum_by-IsPermutation}
use Rattle.std.proofs.lemmas.Option.{get_or_from_slice_get}
use Rattle.moving_heap.specs.declared.stands.Stand.{Stand}
use Rattle.moving_heap.specs.Places.{count_below, at_rank}
use Rattle.moving_heap.specs.Settled.{AreSettled, IsOrder, DifferentPlaces}
use Rattle.moving_heap.proofs.ApartLemmas.{pairs_permutation}
use Rattle.moving_heap.proofs.FindLemmas.{AtMostOne, pairs_tail, find_in_order, find_not_in_order}
use Rattle.moving_heap.proofs.PlaceLemmas.{different}
use Rattle.list_laws.proofs.Numbers.{less}

above : (a b : ℕ) → a < b → suc a < suc b
above a b h = omega arith

abbrev one_if : ℕ → Stand → ℕ
one_if address stand = cond (ltb stand.address address) 1 0

counted : (address : ℕ) (x : Stand) (xs : List Stand) → count_below (x ∷ xs) address ≡ one_if address x + count_below xs address
counted address x xs = sum_by-cons (one_if address) x xs

none_below : (stands : List Stand) (address : ℕ) → ((k : ℕ) (d : Stand) → k < length stands → address ≤ (get_or stands k d).address) → count_below stands address ≡ 0
none_below [] address h = refl
none_below (x ∷ xs) address h =
    let here : ltb x.address address ≡ false = le-ltb x.address address (h zero x (omega arith)) in
    let rest = none_below xs address (λ k d l. h (suc k) d (above k (length xs) l)) in
    counted address x xs ∙ ap (λ b. cond b 1 0 + count_below xs address) here ∙ ap (λ n. 0 + n) rest

strictly : (a b : ℕ) → a ≤ b → a ≢ b → a < b
strictly a b h ne = grind arith

-- in the order of addresses, as many stand less one as come before it
count_at : (order : List Stand) (k : ℕ) (d : Stand) → IsNonDecreasingBy (λ stand. stand.address) order → DifferentPlaces order → k < length order → count_below order (get_or order k d).address ≡ k
count_at [] k d sorted apart l = absurd (omega arith)
count_at (x ∷ xs) zero d sorted apart l = none_below (x ∷ xs) x.address (λ j e lj. sorted zero j e (omega arith) lj)
count_at (x ∷ xs) (suc k) d sorted apart l =
    let up : x.address ≤ (get_or xs k d).address = sorted zero (suc k) d (omega arith) l in
    let other : x.address ≢ (get_or xs k d).address = apart zero (suc k) d (omega arith) l (λ e. let no : ⊥ = omega arith in no) in
    let low : x.address < (get_or xs k d).address = strictly x.address (get_or xs k d).address up other in
    let rest = count_at xs k d (λ i j e le lj. sorted (suc i) (suc j) e (omega arith) (above j (length xs) lj)) (pairs_tail (λ one two. one.address ≢ two.address) x xs apart) (less k (length xs) l) in
    counted (get_or xs k d).address x xs ∙ ap (λ b. cond b 1 0 + count_below xs (get_or xs k d).address) (lt-ltb x.address (get_or xs k d).address low)
    ∙ ap (λ n. 1 + n) rest ∙ omega arith

same_count : (stands order : List Stand) (address : ℕ) → IsPermutation stands order → count_below stands address ≡ count_below order address
same_count stands order address p = sym (sum_by-IsPermutation (one_if address) stands order p)

abbrev has_rank : List Stand → ℕ → Stand → Bool
has_rank stands rank stand = eqb (count_below stands stand.address) rank

rank_of : (stands order : List Stand) (k : ℕ) (d : Stand) → AreSettled stands → IsOrder stands order → k < length order → count_below stands (get_or order k d).address ≡ k
rank_of stands order k d are is l =
    same_count stands order (get_or order k d).address is.same
    ∙ count_at order k d is.sorted (pairs_permutation (λ one two. one.address ≢ two.address) stands order is.same (different stands are)) l

one_rank : (stands order : List Stand) (rank : ℕ) → AreSettled stands → IsOrder stands order → AtMostOne (has_rank stands rank) stands
one_rank stands order rank are is =
    pairs_permutation (λ one two. has_rank stands rank one ≡ true → has_rank stands rank two ≡ true → ⊥) order stands (IsPermutation-sym stands order is.same)
    (λ i j d li lj ne one two.
    ne (sym (rank_of stands order i d are is li) ∙ eqb-true (count_below stands (get_or order i d).address) rank one
    ∙ sym (eqb-true (count_below stands (get_or order j d).address) rank two) ∙ rank_of stands order j d are is lj))

pub within : {X : Type 0} (xs : List X) (k : ℕ) (x : X) → slice_get xs k ≡ Some x → k < length xs
within [] k x e = cc
within (y ∷ xs) zero x e = omega arith
within (y ∷ xs) (suc k) x e = above k (length xs) (within xs k x e)

pub rank_found : (stands order : List Stand) (rank : ℕ) (stand : Stand) → AreSettled stands → IsOrder stands order → slice_get order rank ≡ Some stand → Some stand ≡ at_rank stands rank
rank_found stands order rank stand are is e =
    let l = within order rank stand e in
    let here : get_or order rank stand ≡ stand = get_or_from_slice_get order rank stand stand e in
    ap (λ (s : Stand). Some s) (sym here)
    ∙ sym (find_in_order (has_rank stands rank) stands order rank stand is.same l (eq-eqb (count_below stands (get_or order rank stand).address) rank (rank_of stands order rank stand are is l))
    (one_rank stands order rank are is))

pub rank_past : (stands order : List Stand) (rank : ℕ) → AreSettled stands → IsOrder stands order → length order ≤ rank → None ≡ at_rank stands rank
rank_past stands order rank are is past =
    sym (find_not_in_order (has_rank stands rank) stands order is.same
    (λ k d l. ne_eqb (count_below stands (get_or order k d).address) rank (λ e. let at = rank_of stands order k d are is l in let no : ⊥ = omega arith in no)))
