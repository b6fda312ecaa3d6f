-- Tables of places: before and after a move, and with a further object.
use Rattle.std.proofs.Common.{◌≡◌, ℕ, zero, suc, ◌+◌, ◌-◌, ◌*◌, ◌<◌, ◌≤◌, ◌≢◌, ◌^◌, ◌%◌, Bool, true, false, ◌⊎◌, inl, inr, List, [], ◌∷◌, ◌++◌, length, get_or, map, refl, sym, ap, ◌∙◌, subst, arith, cond, eqb, ltb, leb, ◌&&◌, Option, Some, None}
use Rattle.std.specs.List.{sum_by, All}
use Rattle.std.specs.Prelude.{slice_get}
use Rattle.std.specs.Option.{option_map, option_map_or, unwrap_or}
use Rattle.std.proofs.lemmas.Option.{get_or_from_slice_get}
use Rattle.std.specs.List.Sorted.{IsPermutation}
use Rattle.std.proofs.lemmas.Bool.{and_parts, and_from, and_left, and_right, eqb-true, eq-eqb, ne_eqb, ltb-true, leb-true, lt-ltb, le-leb, le-ltb, lt-leb, cases_lt, cases_Bool, false_from_ne_true}
use Rattle.std.proofs.lemmas.List.{same_lists, length-map, get_or-map, get_or_append_left, get_or_push, length_push}
use Rattle.std.proofs.lemmas.List.Sums.{sum_by-cons, sum_by_push}
use Rattle.std.proofs.lemmas.List.Sorted.{IsPermutation-sym, IsPermutation-trans, IsPermutation-map, All-permutation}
use Rattle.move_plan.specs.declared.plan_lines.Move.{Move}
use Rattle.moving_heap.specs.declared.stands.Verdict.TheVariants.{Empty, Legal, Illegal}
use Rattle.moving_heap.specs.declared.stands.Stand.{Stand}
use Rattle.moving_heap.specs.declared.stands.Moved.{Moved}
use Rattle.moving_heap.specs.Places.{new_address, owner, stands_at, holds, apart, clear, moves_of, moved, sent, fits, all_fit, new_word, carried, new_stand, first_place, due_moves, group_moves, group_targets, is_legal, no_lines, moves_none, exist, differ}
use Rattle.moving_heap.specs.Settled.{Pairs, Clear, IsSettled, AreSettled, IsOrder, DifferentPlaces}
use Rattle.moving_heap.specs.Orders.{target_of, sent_by, IsLow}
use Rattle.moving_heap.proofs.OrderLemmas.{moved_by_number}
use Rattle.moving_heap.proofs.ApartLemmas.{apart_pairs, pairs_apart, pairs_permutation}
use Rattle.moving_heap.proofs.FindLemmas.{pairs_tail, old_of, find_nothing, find_at_index, find_in_order, find_not_in_order, AtMostOne, found_by, none_passes}
use Rattle.list_laws.proofs.Numbers.{less}

above : (a b : ℕ) → a < b → suc a < suc b
above a b h = omega arith

-- moved objects, one by one
pub moved-get : (stands : List Stand) (targets : List (Option ℕ)) (k : ℕ) (d : Stand) → k < length stands → get_or (moved stands targets) k d ≡ sent (get_or stands k d) (get_or targets k None)
moved-get [] targets k d l = absurd (omega arith)
moved-get (stand ∷ stands) [] k d l = refl
moved-get (stand ∷ stands) (target ∷ targets) zero d l = refl
moved-get (stand ∷ stands) (target ∷ targets) (suc k) d l = moved-get stands targets k d (less k (length stands) l)

pub moved-length : (stands : List Stand) (targets : List (Option ℕ)) → length (moved stands targets) ≡ length stands
moved-length [] targets = refl
moved-length (stand ∷ stands) [] = refl
moved-length (stand ∷ stands) (target ∷ targets) = ap suc (moved-length stands targets)

pub sent-size : (stand : Stand) (target : Option ℕ) → (sent stand target).size ≡ stand.size
sent-size stand None = refl
sent-size stand (Some to) = refl

sent-number : (stand : Stand) (target : Option ℕ) → (sent stand target).number ≡ stand.number
sent-number stand None = refl
sent-number stand (Some to) = refl

abbrev sizes : List Stand → ℕ
sizes stands = sum_by (λ stand. stand.size) stands

pub moved-sum : (stands : List Stand) (targets : List (Option ℕ)) → sizes (moved stands targets) ≡ sizes stands
moved-sum [] targets = refl
moved-sum (stand ∷ stands) [] = refl
moved-sum (stand ∷ stands) (target ∷ targets) =
    sum_by-cons (λ s. s.size) (sent stand target) (moved stands targets)
    ∙ ap (λ n. n + sizes (moved stands targets)) (sent-size stand target) ∙ ap (λ n. stand.size + n) (moved-sum stands targets)
    ∙ sym (sum_by-cons (λ s. s.size) stand stands)

pub fits_at : (stands : List Stand) (targets : List (Option ℕ)) (k to : ℕ) (d : Stand) → all_fit stands targets ≡ true → k < length stands → get_or targets k None ≡ Some to
    → fits (get_or stands k d) to ≡ true
fits_at [] targets k to d h l e = absurd (omega arith)
fits_at (stand ∷ stands) [] k to d h l e = cc
fits_at (stand ∷ stands) (None ∷ targets) zero to d h l e = cc
fits_at (stand ∷ stands) (Some other ∷ targets) zero to d h l e =
    let same : other ≡ to = cc in ap (fits stand) (sym same) ∙ (and_parts (fits stand other) (all_fit stands targets) h).0
fits_at (stand ∷ stands) (target ∷ targets) (suc k) to d h l e =
    fits_at stands targets k to d (and_parts (option_map_or (fits stand) target true) (all_fit stands targets) h).1 (less k (length stands) l) e

settled_sent : (used : ℕ) (stand : Stand) (target : Option ℕ) → IsSettled used stand → ((to : ℕ) → target ≡ Some to → fits stand to ≡ true) → IsSettled used (sent stand target)
settled_sent used stand None settled h = settled
settled_sent used stand (Some to) settled h =
    let f = and_parts (eqb (to % 8) 0) (leb (2 ^ 40) to && leb (to + stand.size) (2 ^ 46)) (h to refl) in
    let g = and_parts (leb (2 ^ 40) to) (leb (to + stand.size) (2 ^ 46)) f.1 in
    let high = leb-true (2 ^ 40) to g.0 in record { size = settled.size; low = omega arith; whole = settled.whole; place = inr (leb-true (2 ^ 40) to g.0); top = leb-true (to + stand.size) (2 ^ 46) g.1 }

pub settled_moved : (stands : List Stand) (targets : List (Option ℕ)) → AreSettled stands → all_fit stands targets ≡ true → apart (moved stands targets) ≡ true → AreSettled (moved stands targets)
settled_moved stands targets are fit clear = record {
  each = λ k d l.
      let within : k < length stands = subst (λ (n : ℕ). k < n) (moved-length stands targets) l in
      subst (λ (s : Stand). IsSettled (sizes (moved stands targets)) s) (sym (moved-get stands targets k d within))
      (subst (λ (n : ℕ). IsSettled n (sent (get_or stands k d) (get_or targets k None))) (sym (moved-sum stands targets))
      (settled_sent (sizes stands) (get_or stands k d) (get_or targets k None) (are.each k d within) (λ to e. fits_at stands targets k to d fit within e)));
  within = subst (λ (n : ℕ). n ≤ 67108864) (sym (moved-sum stands targets)) are.within;
  numbered = record {
    at = λ k d l.
        let within : k < length stands = subst (λ (n : ℕ). k < n) (moved-length stands targets) l in
        ap (λ (s : Stand). s.number) (moved-get stands targets k d within) ∙ sent-number (get_or stands k d) (get_or targets k None) ∙ are.numbered.at k d within;
  };
  apart = clear;
}

pub moved_sizes : (stands : List Stand) (targets : List (Option ℕ)) → AreSettled stands → All (λ stand. 0 < stand.size) (moved stands targets)
moved_sizes stands targets are k d l =
    let within : k < length stands = subst (λ (n : ℕ). k < n) (moved-length stands targets) l in
    let size = (are.each k d within).size in
    let same = ap (λ (s : Stand). s.size) (moved-get stands targets k d within) ∙ sent-size (get_or stands k d) (get_or targets k None) in omega arith

absurd_bool : false ≡ true → ⊥
absurd_bool h = cc

pub apart_permutation : (xs ys : List Stand) → IsPermutation xs ys → apart xs ≡ apart ys
apart_permutation xs ys same =
    elim (cases_Bool (apart xs)) [
      | inl h ↦ h ∙ sym (pairs_apart ys (pairs_permutation Clear xs ys same (apart_pairs xs h)))
      | inr f ↦ f ∙ sym (false_from_ne_true (apart ys) (λ h. absurd_bool (sym f ∙ pairs_apart xs (pairs_permutation Clear ys xs (IsPermutation-sym xs ys same) (apart_pairs ys h)))))
    ]

differ_of : (one other : Stand) → 8 ≤ one.size → 8 ≤ other.size → Clear one other → one.address ≡ other.address → ⊥
differ_of one other a b (inl h) e = omega arith
differ_of one other a b (inr h) e = omega arith

-- objects that are apart have different addresses
pub different : (stands : List Stand) → AreSettled stands → DifferentPlaces stands
different stands are i j d li lj ne e =
    differ_of (get_or stands i d) (get_or stands j d) (are.each i d li).size (are.each j d lj).size (apart_pairs stands are.apart i j d li lj ne) e

-- where each object goes, by its address
pub goes_where : (stands : List Stand) (targets : List (Option ℕ)) (k : ℕ) (d : Stand) → DifferentPlaces stands → k < length stands
    → new_address (moves_of stands targets) (get_or stands k d).address ≡ get_or targets k None
goes_where [] targets k d apart l = absurd (omega arith)
goes_where (stand ∷ stands) [] k d apart l = refl
goes_where (stand ∷ stands) (Some to ∷ targets) zero d apart l = rw (eq-eqb stand.address stand.address refl) refl
goes_where (stand ∷ stands) (None ∷ targets) zero d apart l =
    ap (option_map (λ (move : Moved). move.new)) (find_nothing (λ (move : Moved). eqb move.old stand.address) (moves_of stands targets)
    (λ k e h. let at = old_of stands targets k e h in
    ne_eqb (get_or (moves_of stands targets) k e).old stand.address
    (λ q. apart zero (suc at.0) stand (omega arith) (above at.0 (length stands) at.1) (λ z. let no : ⊥ = omega arith in no) (sym q ∙ at.2 stand))))
goes_where (stand ∷ stands) (Some to ∷ targets) (suc k) d apart l =
    let miss = ne_eqb stand.address (get_or stands k d).address (apart zero (suc k) d (omega arith) l (λ z. let no : ⊥ = omega arith in no)) in
    rw miss (goes_where stands targets k d (pairs_tail (λ one other. one.address ≢ other.address) stand stands apart) (less k (length stands) l))
goes_where (stand ∷ stands) (None ∷ targets) (suc k) d apart l =
    goes_where stands targets k d (pairs_tail (λ one other. one.address ≢ other.address) stand stands apart) (less k (length stands) l)

sent_carried : (stand : Stand) (target : Option ℕ) → sent stand target ≡ record stand { address = unwrap_or target stand.address }
sent_carried stand None = refl
sent_carried stand (Some to) = refl

-- a legal group moves each object by its address alone
pub carried_all : (stands : List Stand) (targets : List (Option ℕ)) → DifferentPlaces stands → moved stands targets ≡ map (carried (moves_of stands targets)) stands
carried_all stands targets apart =
    same_lists (moved stands targets) (map (carried (moves_of stands targets)) stands)
    (moved-length stands targets ∙ sym (length-map stands (carried (moves_of stands targets))))
    (λ k d l.
    let within : k < length stands = subst (λ (n : ℕ). k < n) (moved-length stands targets) l in
    moved-get stands targets k d within ∙ sent_carried (get_or stands k d) (get_or targets k None)
    ∙ ap (λ o. record (get_or stands k d) { address = unwrap_or o (get_or stands k d).address }) (sym (goes_where stands targets k d apart within))
    ∙ sym (get_or-map (carried (moves_of stands targets)) stands k d d within))

-- a further object
pub count_within : (stands : List Stand) → ((k : ℕ) (d : Stand) → k < length stands → 8 ≤ (get_or stands k d).size) → 8 * length stands ≤ sizes stands
count_within [] h = omega arith
count_within (stand ∷ stands) h =
    let rest = count_within stands (λ k d l. h (suc k) d (above k (length stands) l)) in
    let first = h zero stand (omega arith) in
    let sum = sum_by-cons (λ (s : Stand). s.size) stand stands in omega arith

pairs_push : {X : Type 0} (R : X → X → Type 0) (xs : List X) (y : X) → Pairs R xs → ((k : ℕ) (d : X) → k < length xs → R (get_or xs k d) y) → ((k : ℕ) (d : X) → k < length xs → R y (get_or xs k d))
    → Pairs R (xs ++ y ∷ [])
pairs_push R xs y h one other i j d li lj ne =
    let size = length_push xs y in
    elim (cases_lt i (length xs)) [
      | inl a ↦ (elim (cases_lt j (length xs)) [
        | inl b ↦ rw (get_or_append_left xs (y ∷ []) d i a, get_or_append_left xs (y ∷ []) d j b) (h i j d a b ne)
        | inr b ↦ rw (get_or_append_left xs (y ∷ []) d i a, get_or_push xs y d j (let e : length xs ≡ j = omega arith in e)) (one i d a)
      ])
      | inr a ↦ (elim (cases_lt j (length xs)) [
        | inl b ↦ rw (get_or_push xs y d i (let e : length xs ≡ i = omega arith in e), get_or_append_left xs (y ∷ []) d j b) (other j d b)
        | inr b ↦ absurd (ne (let e : i ≡ j = omega arith in e))
      ])
    ]

settled_more : (used size : ℕ) (stand : Stand) → IsSettled used stand → IsSettled (used + size) stand
settled_more used size stand s = record { size = s.size; low = s.low; whole = s.whole; place = elim s.place [ inl a ↦ inl (omega arith) | inr b ↦ inr b ]; top = s.top }

new_clear : (used size address : ℕ) (stand : Stand) → IsSettled used stand → used + size ≤ 67108864 → address ≡ 65536 + used → (stand.address + stand.size ≤ address) ⊎ (address + size ≤ stand.address)
new_clear used size address stand s room at = elim s.place [ inl a ↦ inl (omega arith) | inr b ↦ inr (omega arith) ]

swapped : (a b : Type 0) → a ⊎ b → b ⊎ a
swapped a b (inl h) = inr h
swapped a b (inr h) = inl h

pub settled_added : (stands : List Stand) (size : ℕ) → AreSettled stands → 8 ≤ size → size % 8 ≡ 0 → sizes stands + size ≤ 67108864 → AreSettled (stands ++ new_stand stands size ∷ [])
settled_added stands size are low whole room =
    let new = new_stand stands size in
    let sum = sum_by_push (λ (s : Stand). s.size) stands new in
    let count = length_push stands new in
    record {
      each = λ k d l. subst (λ (n : ℕ). IsSettled n (get_or (stands ++ new ∷ []) k d)) (sym sum)
          (elim (cases_lt k (length stands)) [
            | inl a ↦ rw (get_or_append_left stands (new ∷ []) d k a) (settled_more (sizes stands) size (get_or stands k d) (are.each k d a))
            | inr b ↦ rw (get_or_push stands new d k (let e : length stands ≡ k = omega arith in e)) (record { size = low; low = omega arith; whole = whole; place = inl (omega arith); top = omega arith })
          ]);
      within = subst (λ (n : ℕ). n ≤ 67108864) (sym sum) room;
      numbered = record {
        at = λ k d l.
            elim (cases_lt k (length stands)) [
              | inl a ↦ rw (get_or_append_left stands (new ∷ []) d k a) (are.numbered.at k d a)
              | inr b ↦ rw (get_or_push stands new d k (let e : length stands ≡ k = omega arith in e)) (omega arith)
            ];
      };
      apart = pairs_apart (stands ++ new ∷ []) (pairs_push Clear stands new (apart_pairs stands are.apart)
          (λ k d l. new_clear (sizes stands) size (first_place stands) (get_or stands k d) (are.each k d l) room refl)
          (λ k d l. swapped _ _ (new_clear (sizes stands) size (first_place stands) (get_or stands k d) (are.each k d l) room refl)));
    }

-- a new object stands behind all that never moved
behind_low : (used : ℕ) (stand : Stand) → IsSettled used stand → IsLow stand → stand.address ≤ 65536 + used
behind_low used stand s low = elim s.place [ inl a ↦ (let size = s.size in omega arith) | inr b ↦ (let size = s.size in let no : ⊥ = omega arith in absurd no) ]

pub last_low : (stands order : List Stand) (address : ℕ) → AreSettled stands → IsOrder stands order → address ≡ 65536 + sizes stands → All (λ other. IsLow other → other.address ≤ address) order
last_low stands order address are is at =
    All-permutation (λ (other : Stand). IsLow other → other.address ≤ address) stands order is.same
    (λ k d l low. subst (λ (n : ℕ). (get_or stands k d).address ≤ n) (sym at) (behind_low (sizes stands) (get_or stands k d) (are.each k d l) low))

-- those that leave land in the upper half
pub lands : (stands : List Stand) (targets : List (Option ℕ)) (k to : ℕ) (d : Stand) → AreSettled stands → all_fit stands targets ≡ true → k < length stands → target_of targets (get_or stands k d) ≡ Some to → 2 ^ 40 ≤ to
lands stands targets k to d are fit l e =
    let number = are.numbered.at k d l in
    let place : (get_or stands k d).number - 1 ≡ k = omega arith in
    let f = and_parts (eqb (to % 8) 0) (leb (2 ^ 40) to && leb (to + (get_or stands k d).size) (2 ^ 46)) (fits_at stands targets k to d fit l (ap (λ (n : ℕ). get_or targets n None) (sym place) ∙ e)) in
    leb-true (2 ^ 40) to (and_parts (leb (2 ^ 40) to) (leb (to + (get_or stands k d).size) (2 ^ 46)) f.1).0

pub next_same : (stands order next : List Stand) (targets : List (Option ℕ)) → AreSettled stands → IsOrder stands order → IsPermutation (map (sent_by targets) order) next → IsPermutation (moved stands targets) next
next_same stands order next targets are is p =
    subst (λ (l : List Stand). IsPermutation l next) (sym (moved_by_number stands targets are.numbered (moved-length stands targets) (λ k d l. moved-get stands targets k d l)))
    (IsPermutation-trans (map (sent_by targets) stands) (map (sent_by targets) order) next (IsPermutation-map (sent_by targets) stands order is.same) p)

both_hold : (word : ℕ) (one other : Stand) → Clear one other → holds word one ≡ true → holds word other ≡ true → ⊥
both_hold word one other clear a b =
    let p = and_parts (leb one.address word) (ltb word (one.address + one.size)) a in
    let q = and_parts (leb other.address word) (ltb word (other.address + other.size)) b in
    let p0 = leb-true one.address word p.0 in let p1 = ltb-true word (one.address + one.size) p.1 in
    let q0 = leb-true other.address word q.0 in let q1 = ltb-true word (other.address + other.size) q.1 in
    elim clear [ inl h ↦ (let no : ⊥ = omega arith in no) | inr h ↦ (let no : ⊥ = omega arith in no) ]

-- the owner of a word
one_owner : (stands : List Stand) (word : ℕ) → AreSettled stands → AtMostOne (holds word) stands
one_owner stands word are i j d li lj ne one other =
    both_hold word (get_or stands i d) (get_or stands j d) (apart_pairs stands are.apart i j d li lj ne) one other

pub owner_found : (stands order : List Stand) (word k : ℕ) (d : Stand) → AreSettled stands → IsOrder stands order → k < length order
    → (get_or order k d).address ≤ word → word < (get_or order k d).address + (get_or order k d).size → Some (get_or order k d) ≡ owner stands word
owner_found stands order word k d are is l low high =
    sym (find_in_order (holds word) stands order k d is.same l
    (and_from (leb (get_or order k d).address word) (ltb word ((get_or order k d).address + (get_or order k d).size)) (le-leb (get_or order k d).address word low) (lt-ltb word ((get_or order k d).address + (get_or order k d).size) high))
    (one_owner stands word are))

-- the objects before one in the order of addresses end before it
order_chain : (stands order : List Stand) (i j : ℕ) (d : Stand) → AreSettled stands → IsOrder stands order → i < j → j < length order
    → (get_or order i d).address + (get_or order i d).size ≤ (get_or order j d).address
order_chain stands order i j d are is h l =
    let clear = pairs_permutation Clear stands order is.same (apart_pairs stands are.apart) i j d (omega arith) l (λ z. let no : ⊥ = omega arith in no) in
    let up = is.sorted i j d (omega arith) l in
    let size = All-permutation (λ (s : Stand). 8 ≤ s.size) stands order is.same (λ k e b. (are.each k e b).size) j d l in
    elim clear [ inl a ↦ a | inr b ↦ omega arith ]

ended : (stands order : List Stand) (word count k : ℕ) (d : Stand) → AreSettled stands → IsOrder stands order → count ≤ length order → k < length order → k < count
    → ((k : ℕ) (d : Stand) → k < count → (get_or order k d).address ≤ word)
    → (get_or order (count - 1) d).address + (get_or order (count - 1) d).size ≤ word → (get_or order k d).address + (get_or order k d).size ≤ word
ended stands order word count k d are is within l a low last =
    elim (cases_lt k (count - 1)) [
      | inl b ↦ (let chain = order_chain stands order k (count - 1) d are is b (omega arith) in let top = low (count - 1) d (omega arith) in omega arith)
      | inr b ↦ (let e : count - 1 ≡ k = omega arith in subst (λ (n : ℕ). (get_or order n d).address + (get_or order n d).size ≤ word) e last)
    ]

pub owner_not_found : (stands order : List Stand) (word count : ℕ) → AreSettled stands → IsOrder stands order → count ≤ length order
    → ((k : ℕ) (d : Stand) → k < count → (get_or order k d).address ≤ word) → ((k : ℕ) (d : Stand) → count ≤ k → k < length order → word < (get_or order k d).address)
    → ((d : Stand) → 0 < count → (get_or order (count - 1) d).address + (get_or order (count - 1) d).size ≤ word) → None ≡ owner stands word
owner_not_found stands order word count are is within low high last =
    sym (find_not_in_order (holds word) stands order is.same
    (λ k d l. elim (cases_lt k count) [
      | inl a ↦ and_right (leb (get_or order k d).address word) (ltb word ((get_or order k d).address + (get_or order k d).size))
          (le-ltb word ((get_or order k d).address + (get_or order k d).size) (ended stands order word count k d are is within l a low (last d (omega arith))))
      | inr b ↦ and_left (leb (get_or order k d).address word) (ltb word ((get_or order k d).address + (get_or order k d).size)) (lt-leb (get_or order k d).address word (high k d b l))
    ]))

-- Laws of addresses. An object's address moves with it, and so does each word that is its address and an offset

-- the word that is an object's address becomes its new address
pub word_moves : (stands : List Stand) (targets : List (Option ℕ)) (k : ℕ) (d : Stand) → DifferentPlaces stands → k < length stands
    → new_word (moves_of stands targets) (get_or stands k d).address ≡ (get_or (moved stands targets) k d).address
word_moves stands targets k d apart l =
    ap (λ o. unwrap_or o (get_or stands k d).address) (goes_where stands targets k d apart l)
    ∙ ap (λ (s : Stand). s.address) (sym (sent_carried (get_or stands k d) (get_or targets k None)))
    ∙ ap (λ (s : Stand). s.address) (sym (moved-get stands targets k d l))

abbrev blank_stand : Stand
blank_stand = record { number = 0; size = 0; address = 0 }

-- 0 is no object's address
pub null_stays : (stands : List Stand) (targets : List (Option ℕ)) → AreSettled stands → new_address (moves_of stands targets) 0 ≡ None
null_stays stands targets are =
    ap (option_map (λ (move : Moved). move.new)) (find_nothing (λ (move : Moved). eqb move.old 0) (moves_of stands targets)
    (λ k e h. let at = old_of stands targets k e h in ne_eqb (get_or (moves_of stands targets) k e).old 0
    (λ q. let low = (are.each at.0 blank_stand at.1).low in let same = at.2 blank_stand in let no : ⊥ = omega arith in no)))

abbrev pub moved_by : Option ℕ → ℕ → ℕ → ℕ
moved_by None base word = word
moved_by (Some new) base word = (word + 2 ^ 64 - base + new) % 2 ^ 64

offset_kept : (stand : Stand) (target : Option ℕ) (offset : ℕ) → stand.address < 2 ^ 64 → moved_by target stand.address ((stand.address + offset) % 2 ^ 64) ≡ ((sent stand target).address + offset) % 2 ^ 64
offset_kept stand None offset h = refl
offset_kept stand (Some to) offset h = omega arith

-- a word that is an object's address and an offset moves with the object at its base
pub address_moves : (stands : List Stand) (targets : List (Option ℕ)) (k offset : ℕ) (d : Stand) → AreSettled stands → k < length stands
    → moved_by (new_address (moves_of stands targets) (get_or stands k d).address) (get_or stands k d).address (((get_or stands k d).address + offset) % 2 ^ 64)
    ≡ ((get_or (moved stands targets) k d).address + offset) % 2 ^ 64
address_moves stands targets k offset d are l =
    let top = (are.each k d l).top in let size = (are.each k d l).size in
    ap (λ o. moved_by o (get_or stands k d).address (((get_or stands k d).address + offset) % 2 ^ 64)) (goes_where stands targets k d (different stands are) l)
    ∙ offset_kept (get_or stands k d) (get_or targets k None) offset (omega arith)
    ∙ ap (λ (s : Stand). (s.address + offset) % 2 ^ 64) (sym (moved-get stands targets k d l))

-- an address inside an object's footprint has that object as its owner, whatever the order of the list
pub owner_is : (stands : List Stand) (word k : ℕ) (d : Stand) → AreSettled stands → k < length stands → holds word (get_or stands k d) ≡ true → owner stands word ≡ Some (get_or stands k d)
owner_is stands word k d are l h = find_at_index (holds word) stands k d l h (one_owner stands word are)

abbrev pub exactly : ℕ → Option Stand → Option Stand
exactly base None = None
exactly base (Some stand) = cond (eqb stand.address base) (Some stand) None

at_found : (stands : List Stand) (base : ℕ) (stand : Stand) → AreSettled stands → stands_at stands base ≡ Some stand → ◌≡◌ {A = Option Stand} (Some stand) (exactly base (owner stands base))
at_found stands base stand are e =
    let found = found_by (λ (s : Stand). eqb s.address base) stands stand e in
    let at = eqb-true stand.address base found.1.1 in
    let size = (are.each found.0 stand found.1.0).size in
    let here : get_or stands found.0 stand ≡ stand = found.1.2 in
    let size' : 8 ≤ stand.size = subst (λ (s : Stand). 8 ≤ s.size) here size in
    let holding : holds base (get_or stands found.0 stand) ≡ true = ap (holds base) here ∙ and_from (leb stand.address base) (ltb base (stand.address + stand.size)) (le-leb stand.address base (omega arith)) (lt-ltb base (stand.address + stand.size) (omega arith)) in
    let own : owner stands base ≡ Some stand = owner_is stands base found.0 stand are found.1.0 holding ∙ ap (λ (s : Stand). Some s) here in
    sym (ap (exactly base) own ∙ ap (λ b. cond b (Some stand) None) (eq-eqb stand.address base at))

at_missing : (stands : List Stand) (base : ℕ) (o : Option Stand) → owner stands base ≡ o → stands_at stands base ≡ None → ◌≡◌ {A = Option Stand} None (exactly base o)
at_missing stands base None own e = refl
at_missing stands base (Some stand) own e =
    let found = found_by (holds base) stands stand own in
    let miss : eqb stand.address base ≡ false = ap (λ (s : Stand). eqb s.address base) (sym found.1.2) ∙ none_passes (λ (s : Stand). eqb s.address base) stands e found.0 stand found.1.0 in
    ap (λ b. cond b (Some stand) None) (sym miss)

at_cases : (stands : List Stand) (base : ℕ) → AreSettled stands → (o : Option Stand) → stands_at stands base ≡ o → stands_at stands base ≡ exactly base (owner stands base)
at_cases stands base are None e = e ∙ at_missing stands base (owner stands base) refl e
at_cases stands base are (Some stand) e = e ∙ at_found stands base stand are e

-- the object that stands at an address is the owner of that address, where it stands exactly there
pub stands_at_is : (stands : List Stand) (base : ℕ) → AreSettled stands → stands_at stands base ≡ exactly base (owner stands base)
stands_at_is stands base are = at_cases stands base are (stands_at stands base) refl

-- Groups by their definition: what stands after an event is settled again, and stands where the definition of places says

legal_of : (quiet legal : Bool) (moves : List Moved) → (due_moves (cond quiet Empty (cond legal Legal Illegal)) moves ≡ [] → ⊥) → (legal ≡ true) × (due_moves (cond quiet Empty (cond legal Legal Illegal)) moves ≡ moves)
legal_of true legal moves some = absurd (some refl)
legal_of false true moves some = (refl, refl)
legal_of false false moves some = absurd (some refl)

pub group_is : (stands : List Stand) (lines : List Move) (event : Option ℕ) → (group_moves stands lines event ≡ [] → ⊥)
    → (is_legal stands lines (group_targets stands lines event) ≡ true) × (group_moves stands lines event ≡ moves_of stands (group_targets stands lines event))
group_is stands lines event some =
    legal_of (no_lines lines && moves_none (group_targets stands lines event)) (is_legal stands lines (group_targets stands lines event)) (moves_of stands (group_targets stands lines event)) some

-- the objects stand where the group sends them
pub group_places : (stands : List Stand) (lines : List Move) (event : Option ℕ) → AreSettled stands → (group_moves stands lines event ≡ [] → ⊥)
    → map (carried (group_moves stands lines event)) stands ≡ moved stands (group_targets stands lines event)
group_places stands lines event are some =
    ap (λ (moves : List Moved). map (carried moves) stands) (group_is stands lines event some).1 ∙ sym (carried_all stands (group_targets stands lines event) (different stands are))

-- they are settled again
pub group_settled : (stands : List Stand) (lines : List Move) (event : Option ℕ) → AreSettled stands → (group_moves stands lines event ≡ [] → ⊥)
    → AreSettled (map (carried (group_moves stands lines event)) stands)
group_settled stands lines event are some =
    let targets = group_targets stands lines event in
    let legal = and_parts (exist stands lines && differ lines) (all_fit stands (group_targets stands lines event) && apart (moved stands (group_targets stands lines event))) (group_is stands lines event some).0 in
    let fit = and_parts (all_fit stands (group_targets stands lines event)) (apart (moved stands (group_targets stands lines event))) legal.1 in
    subst (λ (l : List Stand). AreSettled l) (sym (group_places stands lines event are some)) (settled_moved stands (group_targets stands lines event) are fit.0 fit.1)

-- the object at an address, found in the order of addresses
one_stands_at : (stands : List Stand) (base : ℕ) → AreSettled stands → AtMostOne (λ (s : Stand). eqb s.address base) stands
one_stands_at stands base are i j d li lj ne one other =
    different stands are i j d li lj ne (eqb-true (get_or stands i d).address base one ∙ sym (eqb-true (get_or stands j d).address base other))

pub stands_found : (stands order : List Stand) (base k : ℕ) (d : Stand) → AreSettled stands → IsOrder stands order → k < length order → (get_or order k d).address ≡ base
    → Some (get_or order k d) ≡ stands_at stands base
stands_found stands order base k d are is l e =
    sym (find_in_order (λ (s : Stand). eqb s.address base) stands order k d is.same l (eq-eqb (get_or order k d).address base e) (one_stands_at stands base are))

not_there : (stands order : List Stand) (base count k : ℕ) (d : Stand) → AreSettled stands → IsOrder stands order → count ≤ length order → k < length order
    → ((k : ℕ) (d : Stand) → k < count → (get_or order k d).address ≤ base) → ((k : ℕ) (d : Stand) → count ≤ k → k < length order → base < (get_or order k d).address)
    → (0 < count → (get_or order (count - 1) d).address ≡ base → ⊥) → (get_or order k d).address ≡ base → ⊥
not_there stands order base count k d are is within l low high last e =
    elim (cases_lt k (count - 1)) [
      | inl a ↦ (
          let chain = order_chain stands order k (count - 1) d are is a (omega arith) in
          let size = All-permutation (λ (s : Stand). 8 ≤ s.size) stands order is.same (λ j x b. (are.each j x b).size) k d l in
          let top = low (count - 1) d (omega arith) in let no : ⊥ = omega arith in no)
      | inr a ↦ (elim (cases_lt k count) [
        | inl b ↦ (let same : count - 1 ≡ k = omega arith in last (omega arith) (subst (λ (n : ℕ). (get_or order n d).address ≡ base) (sym same) e))
        | inr b ↦ (let h = high k d b l in let no : ⊥ = omega arith in no)
      ])
    ]

pub stands_not_found : (stands order : List Stand) (base count : ℕ) → AreSettled stands → IsOrder stands order → count ≤ length order
    → ((k : ℕ) (d : Stand) → k < count → (get_or order k d).address ≤ base) → ((k : ℕ) (d : Stand) → count ≤ k → k < length order → base < (get_or order k d).address)
    → ((d : Stand) → 0 < count → (get_or order (count - 1) d).address ≡ base → ⊥) → None ≡ stands_at stands base
stands_not_found stands order base count are is within low high last =
    sym (find_not_in_order (λ (s : Stand). eqb s.address base) stands order is.same
    (λ k d l. ne_eqb (get_or order k d).address base (λ e. not_there stands order base count k d are is within l low high (last d) e)))

-- the same by what stands at a place of the order
pub stands_at_place : (stands order : List Stand) (base k : ℕ) (stand : Stand) → AreSettled stands → IsOrder stands order → k < length order → slice_get order k ≡ Some stand → stand.address ≡ base
    → Some stand ≡ stands_at stands base
stands_at_place stands order base k stand are is l e at =
    let here : get_or order k stand ≡ stand = get_or_from_slice_get order k stand stand e in
    subst (λ (s : Stand). Some s ≡ stands_at stands base) here (stands_found stands order base k stand are is l (ap (λ (s : Stand). s.address) here ∙ at))

pub owner_at_place : (stands order : List Stand) (word k : ℕ) (stand : Stand) → AreSettled stands → IsOrder stands order → k < length order → slice_get order k ≡ Some stand
    → stand.address ≤ word → word < stand.address + stand.size → Some stand ≡ owner stands word
owner_at_place stands order word k stand are is l e low high =
    let here : get_or order k stand ≡ stand = get_or_from_slice_get order k stand stand e in
    subst (λ (s : Stand). Some s ≡ owner stands word) here
    (owner_found stands order word k stand are is l (subst (λ (s : Stand). s.address ≤ word) (sym here) low) (subst (λ (s : Stand). word < s.address + s.size) (sym here) high))

-- the same by an object's own place
pub stands_in_place : (stands : List Stand) (base k : ℕ) (stand : Stand) → AreSettled stands → k < length stands → stand ≡ get_or stands k stand → stand.address ≡ base
    → Some stand ≡ stands_at stands base
stands_in_place stands base k stand are l is at =
    subst (λ (s : Stand). Some s ≡ stands_at stands base) (sym is)
    (sym (find_at_index (λ (s : Stand). eqb s.address base) stands k stand l (eq-eqb (get_or stands k stand).address base (ap (λ (s : Stand). s.address) (sym is) ∙ at)) (one_stands_at stands base are)))

pub owner_in_place : (stands : List Stand) (word k : ℕ) (stand : Stand) → AreSettled stands → k < length stands → stand ≡ get_or stands k stand → stand.address ≤ word → word < stand.address + stand.size
    → Some stand ≡ owner stands word
owner_in_place stands word k stand are l is low high =
    subst (λ (s : Stand). Some s ≡ owner stands word) (sym is)
    (sym (find_at_index (holds word) stands k stand l
    (subst (λ (s : Stand). holds word s ≡ true) is (and_from (leb stand.address word) (ltb word (stand.address + stand.size)) (le-leb stand.address word low) (lt-ltb word (stand.address + stand.size) high)))
    (one_owner stands word are)))
