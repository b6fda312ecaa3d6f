-- Searching the sorted records for a return address finds the first record of the map that has it.
use Rattle.std.proofs.Common.{◌≡◌, ℕ, zero, suc, ◌+◌, ◌<◌, ◌≤◌, Bool, true, false, cond, eqb, ltb, not, ◌&&◌, List, [], ◌∷◌, ◌++◌, length, get_or, Option, Some, None, inl, inr, refl, sym, ap, ◌∙◌, append_assoc, arith}
use Rattle.std.specs.Prelude.{slice_get, option_map, map, filter, ◌==◌}
use Rattle.std.specs.List.{find, enumerate_from, AllAdjacentBelow, AllWithin}
use Rattle.std.specs.List.Sorted.{IsNonDecreasingBy, IsPermutation, IsSortedByKey, IsStableByKey, ties}
use Rattle.std.specs.Ordering.{is_lt, nat_cmp}
use Rattle.std.proofs.lemmas.Bool.{lt-ltb, le-ltb, eq-eqb, ne_eqb, eqb-true, ltb-true, ltb-false, cases_lt, cases_order}
use Rattle.std.proofs.lemmas.List.{map-append, length_push}
use Rattle.std.proofs.lemmas.List.Sorted.{IsPermutation-map, ties_still_rise}
use Rattle.map_bytes.specs.Maps.{StackMap}
use Rattle.map_bytes.specs.Entries.{Entry, entries}
use Rattle.stackmap_view.specs.declared.numbered.Numbered.{Numbered}
use Rattle.stackmap_view.specs.Views.{seen}
use Rattle.stackmap_view.specs.Indexes.{AreInOrder, address_of, pair_of, numbered, first_at, numbered_addresses, IsIndex}

-- ---- numbering

pub number-more : (items : List Numbered) (one : Numbered) (xs ys : List Entry) (total : List (ℕ × Entry)) → xs ≡ seen one.lent ∷ ys → one.number ≡ length items
    → map numbered items ++ enumerate_from (length items) xs ≡ total → map numbered (items ++ one ∷ []) ++ enumerate_from (length (items ++ one ∷ [])) ys ≡ total
number-more items one xs ys total e number so_far =
    let n = length items in
    let last : ℕ × Entry = (n, seen one.lent) in
    let mapped : map numbered (items ++ one ∷ []) ≡ map numbered items ++ last ∷ [] = map-append numbered items (one ∷ []) ∙ ap (λ (k : ℕ). let pair : ℕ × Entry = (k, seen one.lent) in map numbered items ++ pair ∷ []) number in
    ap (λ (x : List (ℕ × Entry)). x ++ enumerate_from (length (items ++ one ∷ [])) ys) mapped
    ∙ ap (λ (k : ℕ). (map numbered items ++ last ∷ []) ++ enumerate_from k ys) (length_push items one)
    ∙ append_assoc (map numbered items) (last ∷ []) (enumerate_from (n + 1) ys)
    ∙ ap (λ (x : List Entry). map numbered items ++ enumerate_from n x) (sym e) ∙ so_far

same-choice : (i : Numbered) (rest : Option Numbered) (other : Option Entry) (x : Entry) (b : Bool) → option_map (λ one. seen one.lent) rest ≡ other → seen i.lent ≡ x
    → option_map (λ one. seen one.lent) (cond b (Some i) rest) ≡ cond b (Some x) other
same-choice i rest other x true same head = ap (λ (y : Entry). Some y) head
same-choice i rest other x false same head = same

-- the first at an address among numbered records is the first of the records
pub first-numbered : (items : List Numbered) (n : ℕ) (es : List Entry) (address : ℕ) → map numbered items ≡ enumerate_from n es
    → option_map (λ one. seen one.lent) (first_at items address) ≡ find (λ entry. entry.return_address == address) es
first-numbered [] n [] address e = refl
first-numbered [] n (x ∷ es) address e = absurd cc
first-numbered (i ∷ items) n [] address e = absurd cc
first-numbered (i ∷ items) n (x ∷ es) address e =
    let pair : ℕ × Entry = (n, x) in
    let both : numbered i ≡ pair = cc in
    let head : seen i.lent ≡ x = ap (λ (p : ℕ × Entry). p.1) both in
    let tail : map numbered items ≡ enumerate_from (n + 1) es = cc in
    same-choice i (first_at items address) (find (λ entry. entry.return_address == address) es) x (eqb (address_of i) address) (first-numbered items (n + 1) es address tail) head
    ∙ ap (λ (y : Entry). cond (eqb y.return_address address) (Some x) (find (λ entry. entry.return_address == address) es)) head

-- ---- sorting keeps the first at an address

filter-same : (p q : Numbered → Bool) (xs : List Numbered) → ((x : Numbered) → p x ≡ q x) → filter p xs ≡ filter q xs
filter-same p q [] h = refl
filter-same p q (x ∷ xs) h =
    ap (λ (b : Bool). cond b (x ∷ filter p xs) (filter p xs)) (h x) ∙ ap (λ (ys : List Numbered). cond (q x) (x ∷ ys) ys) (filter-same p q xs h)

found-first : (b : Bool) (x : Numbered) (rest : Option Numbered) (passing : List Numbered) → rest ≡ slice_get passing 0 → cond b (Some x) rest ≡ slice_get (cond b (x ∷ passing) passing) 0
found-first true x rest passing e = refl
found-first false x rest passing e = e

-- a search gives the first that passes
find-filter : (p : Numbered → Bool) (xs : List Numbered) → find p xs ≡ slice_get (filter p xs) 0
find-filter p [] = refl
find-filter p (x ∷ xs) = found-first (p x) x (find p xs) (filter p xs) (find-filter p xs)

passes-first : (p : Numbered → Bool) (x one : Numbered) (rest : Option Numbered) (b : Bool) → p x ≡ b → (rest ≡ Some one → p one ≡ true) → cond b (Some x) rest ≡ Some one → p one ≡ true
passes-first p x one rest true is later e = let same : x ≡ one = cc in ap p (sym same) ∙ is
passes-first p x one rest false is later e = later e

-- what is found passes
found-passes : (p : Numbered → Bool) (xs : List Numbered) (one : Numbered) → find p xs ≡ Some one → p one ≡ true
found-passes p [] one e = absurd cc
found-passes p (x ∷ xs) one e = passes-first p x one (find p xs) (p x) refl (found-passes p xs one) e

tie-is : (m n : ℕ) → (not (is_lt (nat_cmp m n)) && not (is_lt (nat_cmp n m))) ≡ eqb n m
tie-is m n = elim (cases_order m n) [
  | inl same ↦ ap (λ (k : ℕ). not (is_lt (nat_cmp m k)) && not (is_lt (nat_cmp k m))) (sym same) ∙ rw (le-ltb m m (omega arith), eq-eqb m m refl, eq-eqb n m (sym same)) refl
  | inr (inl below) ↦ rw (lt-ltb m n below, ne_eqb n m (λ e. omega (arith, e))) refl
  | inr (inr above) ↦ rw (le-ltb m n (omega arith), ne_eqb m n (λ e. omega (arith, e)), lt-ltb n m above, ne_eqb n m (λ e. omega (arith, e))) refl
]

stays : (old new : List Numbered) (one : Numbered) (address : ℕ) → IsStableByKey address_of nat_cmp old new → address_of one ≡ address → first_at new address ≡ first_at old address
stays old new one address stable is =
    let p : Numbered → Bool = λ y. eqb (address_of y) address in
    let lt : Numbered → Numbered → Bool = λ x y. is_lt (nat_cmp (address_of x) (address_of y)) in
    let same : (y : Numbered) → ties lt one y ≡ p y = λ y. tie-is (address_of one) (address_of y) ∙ ap (eqb (address_of y)) is in
    find-filter p new ∙ ap (λ (xs : List Numbered). slice_get xs 0) (sym (filter-same (ties lt one) p new same) ∙ stable one ∙ filter-same (ties lt one) p old same) ∙ sym (find-filter p old)

stays-by : (old new : List Numbered) (address : ℕ) (before after : Option Numbered) → IsStableByKey address_of nat_cmp old new → first_at old address ≡ before → first_at new address ≡ after → after ≡ before
stays-by old new address None None stable e also = refl
stays-by old new address (Some one) after stable e also =
    sym also ∙ stays old new one address stable (eqb-true (address_of one) address (found-passes (λ y. eqb (address_of y) address) old one e)) ∙ e
stays-by old new address None (Some one) stable e also =
    sym also ∙ stays old new one address stable (eqb-true (address_of one) address (found-passes (λ y. eqb (address_of y) address) new one also)) ∙ e

-- the sorted records are an index
pub sorted-index : (whole : StackMap) (old new : List Numbered) → map numbered old ≡ enumerate_from 0 (entries whole) → IsNonDecreasingBy address_of new → IsStableByKey address_of nat_cmp old new → IsIndex whole new
sorted-index whole old new numbers sorted stable = record {
  sorted = sorted;
  finds = λ address. ap (option_map (λ one. seen one.lent)) (stays-by old new address (first_at old address) (first_at new address) stable refl refl) ∙ first-numbered old 0 (entries whole) address numbers;
}

-- ---- the pairs

pairs-mapped : (items : List Numbered) (numbers : List (ℕ × Entry)) → map numbered items ≡ numbers → map pair_of items ≡ map (λ one. let pair : ℕ × ℕ = (one.1.return_address, one.0) in pair) numbers
pairs-mapped [] [] e = refl
pairs-mapped [] (n ∷ ns) e = absurd cc
pairs-mapped (i ∷ items) [] e = absurd cc
pairs-mapped (i ∷ items) (n ∷ ns) e =
    let head : numbered i ≡ n = cc in
    let tail : map numbered items ≡ ns = cc in
    ap (λ (x : ℕ × Entry). let pair : ℕ × ℕ = (x.1.return_address, x.0) in pair ∷ map pair_of items) head
    ∙ ap (λ (xs : List (ℕ × ℕ)). let pair : ℕ × ℕ = (n.1.return_address, n.0) in pair ∷ xs) (pairs-mapped items ns tail)

pub pairs-permuted : (whole : StackMap) (old new : List Numbered) → map numbered old ≡ enumerate_from 0 (entries whole) → IsPermutation old new → IsPermutation (numbered_addresses whole) (map pair_of new)
pairs-permuted whole old new numbers moved =
    let e = pairs-mapped old (enumerate_from 0 (entries whole)) numbers in
    rw (← e) (IsPermutation-map pair_of old new moved)

get-pair : (items : List Numbered) (i : ℕ) (d : ℕ × ℕ) (e : Numbered) → i < length items → (get_or (map pair_of items) i d).0 ≡ address_of (get_or items i e)
get-pair [] i d e lt = absurd (omega arith)
get-pair (x ∷ items) zero d e lt = refl
get-pair (x ∷ items) (suc i) d e lt = get-pair items i d e (omega arith)

get-number : (items : List Numbered) (i : ℕ) (d : ℕ × ℕ) (e : Numbered) → i < length items → (get_or (map pair_of items) i d).1 ≡ (get_or items i e).number
get-number [] i d e lt = absurd (omega arith)
get-number (x ∷ items) zero d e lt = refl
get-number (x ∷ items) (suc i) d e lt = get-number items i d e (omega arith)

length-pairs : (items : List Numbered) → length (map pair_of items) ≡ length items
length-pairs [] = refl
length-pairs (x ∷ items) = ap suc (length-pairs items)

number-at : (items : List Numbered) (n : ℕ) (es : List Entry) (k : ℕ) (d : Numbered) → map numbered items ≡ enumerate_from n es → k < length items → (get_or items k d).number ≡ n + k
number-at [] n es k d e lt = absurd (omega arith)
number-at (i ∷ items) n [] k d e lt = absurd cc
number-at (i ∷ items) n (x ∷ es) zero d e lt =
    let pair : ℕ × Entry = (n, x) in
    let both : numbered i ≡ pair = cc in
    ap (λ (p : ℕ × Entry). p.0) both ∙ omega arith
number-at (i ∷ items) n (x ∷ es) (suc k) d e lt =
    let tail : map numbered items ≡ enumerate_from (n + 1) es = cc in
    number-at items (n + 1) es k d tail (omega arith) ∙ omega arith

not-less : (m n : ℕ) → m ≤ n → is_lt (nat_cmp n m) ≡ false
not-less m n le = elim (cases_order n m) [
  | inl same ↦ rw (le-ltb n m le, eq-eqb n m same) refl
  | inr (inl below) ↦ absurd (omega (arith, below, le))
  | inr (inr above) ↦ rw (le-ltb n m le, ne_eqb n m (λ e. omega (arith, e, above))) refl
]

numbers-rise : (items : List Numbered) (es : List Entry) → map numbered items ≡ enumerate_from 0 es → IsSortedByKey (λ (one : Numbered). one.number) nat_cmp items
numbers-rise items es numbers = λ k d low high.
    let here = number-at items 0 es k d numbers (omega arith) in
    let next = number-at items 0 es (k + 1) d numbers (omega arith) in
    not-less (get_or items k d).number (get_or items (k + 1) d).number (omega (arith, here, next))

-- the pairs are in order of the address and the number
pub pairs-in-order : (es : List Entry) (old new : List Numbered) → map numbered old ≡ enumerate_from 0 es → IsNonDecreasingBy address_of new → IsStableByKey address_of nat_cmp old new
    → AllAdjacentBelow AreInOrder (map pair_of new) (length (map pair_of new))
pairs-in-order es old [] numbers sorted stable = λ k d lt. absurd (omega arith)
pairs-in-order es old (x ∷ items) numbers sorted stable = λ k d lt.
    let new : List Numbered = x ∷ items in
    let within : k + 1 < length new = omega (arith, lt, length-pairs new) in
    let one = get-pair new k d x (omega arith) in
    let next = get-pair new (k + 1) d x within in
    let one_number = get-number new k d x (omega arith) in
    let next_number = get-number new (k + 1) d x within in
    let rises : address_of (get_or new k x) ≤ address_of (get_or new (k + 1) x) = sorted k (k + 1) x (omega arith) within in
    elim (cases_lt (address_of (get_or new k x)) (address_of (get_or new (k + 1) x))) [
      | inl below ↦ inl (omega (arith, one, next, below))
      | inr equal ↦
          let same : address_of (get_or new k x) ≡ address_of (get_or new (k + 1) x) = omega (arith, rises, equal) in
          let later = ties_still_rise (λ (y : Numbered). y.number) address_of old new (numbers-rise old es numbers) stable k x within same in
          inr (one ∙ same ∙ sym next, omega (arith, one_number, next_number, later))
    ]

-- ---- searching by halves

abbrev pub kept : ℕ → Option Numbered → Option Numbered
kept address None = None
kept address (Some one) = cond (eqb (address_of one) address) (Some one) None

find-nothing : (xs : List Numbered) (address : ℕ) → ((k : ℕ) (d : Numbered) → k < length xs → address < address_of (get_or xs k d)) → first_at xs address ≡ None
find-nothing [] address above = refl
find-nothing (x ∷ xs) address above =
    let here = above 0 x (omega arith) in
    rw (ne_eqb (address_of x) address (λ e. omega (arith, e, here))) (find-nothing xs address (λ k d lt. above (suc k) d (omega arith)))

pub search-point : (xs : List Numbered) (address place : ℕ) → IsNonDecreasingBy address_of xs → AllWithin (λ one. ltb (address_of one) address ≡ true) xs 0 place
    → AllWithin (λ one. ltb (address_of one) address ≡ false) xs place (length xs) → first_at xs address ≡ kept address (slice_get xs place)
search-point [] address place sorted front back = refl
search-point (x ∷ xs) address zero sorted front back = by_test (eqb (address_of x) address) refl where
  by_test : (b : Bool) → eqb (address_of x) address ≡ b → cond b (Some x) (first_at xs address) ≡ cond b (Some x) None
  by_test true e = refl
  by_test false e =
      let here : address ≤ address_of x = ltb-false (address_of x) address (back 0 x (omega arith) (omega arith)) in
      let differ : address_of x ≡ address → ⊥ = λ same. let wrong : eqb (address_of x) address ≡ true = eq-eqb (address_of x) address same in cc in
      find-nothing xs address (λ k d lt. let later : address_of x ≤ address_of (get_or xs k d) = sorted 0 (suc k) d (omega arith) (omega arith) in omega (arith, here, differ, later))
search-point (x ∷ xs) address (suc place) sorted front back =
    let here : address_of x < address = ltb-true (address_of x) address (front 0 x (omega arith) (omega arith)) in
    rw (ne_eqb (address_of x) address (λ e. omega (arith, e, here)))
    (search-point xs address place (λ i j d le lt. sorted (suc i) (suc j) d (omega arith) (omega arith)) (λ k d low high. front (suc k) d (omega arith) (omega arith)) (λ k d low high. back (suc k) d (omega arith) (omega arith)))

pub slice-at : (xs : List Numbered) (i : ℕ) (one : Numbered) → i < length xs → one ≡ get_or xs i one → slice_get xs i ≡ Some one
slice-at [] i one lt e = absurd (omega arith)
slice-at (x ∷ xs) zero one lt e = ap (λ (y : Numbered). Some y) (sym e)
slice-at (x ∷ xs) (suc i) one lt e = slice-at xs i one (omega arith) e

pub slice-past : (xs : List Numbered) (i : ℕ) → length xs ≤ i → slice_get xs i ≡ None
slice-past [] i le = refl
slice-past (x ∷ xs) zero le = absurd (omega arith)
slice-past (x ∷ xs) (suc i) le = slice-past xs i (omega arith)

pub kept-here : (address : ℕ) (one : Numbered) → address_of one ≡ address → kept address (Some one) ≡ Some one
kept-here address one e = rw (eq-eqb (address_of one) address e) refl

pub kept-none : (address : ℕ) (one : Numbered) → (address_of one ≡ address → ⊥) → kept address (Some one) ≡ None
kept-none address one e = rw (ne_eqb (address_of one) address e) refl
