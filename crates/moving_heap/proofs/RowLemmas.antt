-- Objects by their places: in range, as a group sends them, those that stay and those that leave.
use Rattle.std.proofs.Common.{◌≡◌, ℕ, zero, suc, ◌+◌, ◌-◌, ◌<◌, ◌≤◌, ◌^◌, Bool, true, false, cond, inl, inr, List, [], ◌∷◌, ◌++◌, length, drop, map, get_or, refl, sym, ap, ◌∙◌, subst, arith, Option, Some, None}
use Rattle.std.specs.Prelude.{is_some, filter, slice_get}
use Rattle.std.specs.List.{All, filter_map, sum_by}
use Rattle.std.specs.List.Sorted.{IsPermutation, IsNonDecreasingBy}
use Rattle.std.proofs.lemmas.Bool.{cases_lt}
use Rattle.std.proofs.lemmas.List.{drop_more, get_or_past, get_or-map, length-map, map-append, same_lists, get_or_append_left, get_or_push, length_push, length-append, append_assoc}
use Rattle.std.proofs.lemmas.List.Sorted.{IsPermutation-sym, IsPermutation-trans, IsPermutation-cons, IsPermutation-middle, IsPermutation-to_front, IsPermutation-map, All-permutation}
use Rattle.moving_heap.specs.declared.stands.Stand.{Stand}
use Rattle.moving_heap.specs.Places.{moved, sent, new_stand, all_fit}
use Rattle.moving_heap.specs.Orders.{target_of, stays, leaver, IsLow, IsHigh, Ordered, nowhere, stand_at, row, ranks, then_at, then_row, then_ranks, stays_at, leaves_at}
use Rattle.moving_heap.specs.Settled.{IsNumbered, IsOrder, AreSettled, AreRanked}
use Rattle.moving_heap.proofs.OrderLemmas.{sorted_between, leavers_high, split-length}
use Rattle.moving_heap.proofs.PlaceLemmas.{moved-get, last_low, lands}

-- ---- places are in range

within_by : (f : ℕ → Stand) (n : ℕ) (xs : List Stand) (places : List ℕ) → ((p : ℕ) → n ≤ p → (f p).number ≡ 0) → All (λ stand. 0 < stand.number) xs → IsPermutation xs (map f places)
    → All (λ place. place < n) places
within_by f n xs places out numbered same k d l =
    let size = length-map places f in
    let some = All-permutation (λ (stand : Stand). 0 < stand.number) xs (map f places) same numbered k nowhere (omega arith) in
    let here = ap (λ (stand : Stand). stand.number) (get_or-map f places k d nowhere l) in
    elim (cases_lt (get_or places k d) n) [
      | inl a ↦ a
      | inr b ↦ (let none = out (get_or places k d) b in let no : ⊥ = omega arith in absurd no)
    ]

numbers : (stands : List Stand) → IsNumbered stands → All (λ stand. 0 < stand.number) stands
numbers stands numbered k d l = let number = numbered.at k d l in omega arith

pub row-append : (stands : List Stand) (low high : List ℕ) → row stands (low ++ high) ≡ row stands low ++ row stands high
row-append stands low high = map-append (stand_at stands) low high

pub row_within : (stands : List Stand) (low high : List ℕ) → IsNumbered stands → IsPermutation stands (row stands low ++ row stands high) → All (λ place. place < length stands) (low ++ high)
row_within stands low high numbered same =
    within_by (stand_at stands) (length stands) stands (low ++ high) (λ p past. ap (λ (stand : Stand). stand.number) (get_or_past stands p nowhere past)) (numbers stands numbered)
    (subst (λ (l : List Stand). IsPermutation stands l) (sym (row-append stands low high)) same)

sent-number : (stand : Stand) (target : Option ℕ) → (sent stand target).number ≡ stand.number
sent-number stand None = refl
sent-number stand (Some to) = refl

then_within : (stands : List Stand) (targets : List (Option ℕ)) (low high : List ℕ) → IsNumbered (moved stands targets)
    → IsPermutation (moved stands targets) (then_row stands targets low ++ then_row stands targets high) → All (λ place. place < length stands) (low ++ high)
then_within stands targets low high numbered same =
    within_by (then_at stands targets) (length stands) (moved stands targets) (low ++ high)
    (λ p past. sent-number (stand_at stands p) (target_of targets (stand_at stands p)) ∙ ap (λ (stand : Stand). stand.number) (get_or_past stands p nowhere past)) (numbers (moved stands targets) numbered)
    (subst (λ (l : List Stand). IsPermutation (moved stands targets) l) (sym (map-append (then_at stands targets) low high)) same)

pub all_left_of : (P : ℕ → Type 0) (xs ys : List ℕ) → All P (xs ++ ys) → All P xs
all_left_of P xs ys h k d l = rw (← get_or_append_left xs ys d k l) (h k d (let size = length-append xs ys in omega arith))

-- the objects after a group, by their places
row_moved : (stands : List Stand) (targets : List (Option ℕ)) (places : List ℕ) → IsNumbered stands → All (λ place. place < length stands) places
    → row (moved stands targets) places ≡ then_row stands targets places
row_moved stands targets places numbered within =
    same_lists (row (moved stands targets) places) (then_row stands targets places) (length-map places (stand_at (moved stands targets)) ∙ sym (length-map places (then_at stands targets)))
    (λ k d l.
    let size = length-map places (stand_at (moved stands targets)) in
    let here : k < length places = omega arith in
    let p = get_or places k 0 in
    let inside : p < length stands = within k 0 here in
    let number = numbered.at p nowhere inside in
    let place : p ≡ (get_or stands p nowhere).number - 1 = omega arith in
    get_or-map (stand_at (moved stands targets)) places k 0 d here ∙ moved-get stands targets p nowhere inside
    ∙ ap (λ (n : ℕ). sent (get_or stands p nowhere) (get_or targets n None)) place
    ∙ sym (get_or-map (then_at stands targets) places k 0 d here))

all_right_of : (P : ℕ → Type 0) (xs ys : List ℕ) → All P (xs ++ ys) → All P ys
all_right_of P [] ys h = h
all_right_of P (x ∷ xs) ys h = all_right_of P xs ys (λ k d l. h (suc k) d (let more : suc k < suc (length (xs ++ ys)) = omega arith in more))

ranked_from : (stands : List Stand) (places : Ordered) (lows highs : List Stand) → row stands places.low ≡ lows → row stands places.high ≡ highs → IsOrder stands (lows ++ highs) → All IsLow lows → All IsHigh highs
    → AreRanked stands places
ranked_from stands places lows highs l h order low high = record {
  order = subst (λ (xs : List Stand). IsOrder stands (xs ++ row stands places.high)) (sym l) (subst (λ (ys : List Stand). IsOrder stands (lows ++ ys)) (sym h) order);
  lower = subst (λ (xs : List Stand). All IsLow xs) (sym l) low;
  upper = subst (λ (ys : List Stand). All IsHigh ys) (sym h) high;
}

pub ranked_moved : (stands : List Stand) (targets : List (Option ℕ)) (next : Ordered) → IsNumbered stands → IsNumbered (moved stands targets)
    → IsPermutation (moved stands targets) (then_ranks stands targets next) → IsNonDecreasingBy (λ stand. stand.address) (then_ranks stands targets next)
    → All IsLow (then_row stands targets next.low) → All IsHigh (then_row stands targets next.high) → AreRanked (moved stands targets) next
ranked_moved stands targets next numbered after same sorted low high =
    let within = then_within stands targets next.low next.high after same in
    let lows = row_moved stands targets next.low numbered (all_left_of (λ (p : ℕ). p < length stands) next.low next.high within) in
    let highs = row_moved stands targets next.high numbered (all_right_of (λ (p : ℕ). p < length stands) next.low next.high within) in
    ranked_from (moved stands targets) next (then_row stands targets next.low) (then_row stands targets next.high) lows highs (record { same = same; sorted = sorted }) low high

-- ---- those that stay and those that leave

pub filter_keeps : (p : ℕ → Bool) (xs : List ℕ) (i d : ℕ) → i < length xs → p (get_or xs i d) ≡ true → filter p (drop i xs) ≡ get_or xs i d ∷ filter p (drop (i + 1) xs)
filter_keeps p xs i d l e =
    ap (λ (rest : List ℕ). filter p rest) (drop_more xs i d l) ∙ ap (λ b. cond b (get_or xs i d ∷ filter p (drop (i + 1) xs)) (filter p (drop (i + 1) xs))) e

pub filter_skips : (p : ℕ → Bool) (xs : List ℕ) (i d : ℕ) → i < length xs → p (get_or xs i d) ≡ false → filter p (drop i xs) ≡ filter p (drop (i + 1) xs)
filter_skips p xs i d l e =
    ap (λ (rest : List ℕ). filter p rest) (drop_more xs i d l) ∙ ap (λ b. cond b (get_or xs i d ∷ filter p (drop (i + 1) xs)) (filter p (drop (i + 1) xs))) e

kept_head : (stands : List Stand) (targets : List (Option ℕ)) (x : ℕ) (xs : List ℕ) (o : Option ℕ) → target_of targets (stand_at stands x) ≡ o
    → then_row stands targets (filter (stays_at stands targets) xs) ≡ filter (stays targets) (row stands xs)
    → then_row stands targets (filter (stays_at stands targets) (x ∷ xs)) ≡ filter (stays targets) (row stands (x ∷ xs))
kept_head stands targets x xs None e rest = rw (e, e) (ap (λ (l : List Stand). stand_at stands x ∷ l) rest)
kept_head stands targets x xs (Some to) e rest = rw e rest

pub kept_row : (stands : List Stand) (targets : List (Option ℕ)) (places : List ℕ) → then_row stands targets (filter (stays_at stands targets) places) ≡ filter (stays targets) (row stands places)
kept_row stands targets [] = refl
kept_row stands targets (x ∷ xs) = kept_head stands targets x xs (target_of targets (stand_at stands x)) refl (kept_row stands targets xs)

left_head : (stands : List Stand) (targets : List (Option ℕ)) (x : ℕ) (xs : List ℕ) (o : Option ℕ) → target_of targets (stand_at stands x) ≡ o
    → then_row stands targets (filter (leaves_at stands targets) xs) ≡ filter_map (leaver targets) (row stands xs)
    → then_row stands targets (filter (leaves_at stands targets) (x ∷ xs)) ≡ filter_map (leaver targets) (row stands (x ∷ xs))
left_head stands targets x xs None e rest = rw e rest
left_head stands targets x xs (Some to) e rest = rw (e, e) (ap (λ (l : List Stand). (let s : Stand = record (stand_at stands x) { address = to } in s) ∷ l) rest)

pub left_row : (stands : List Stand) (targets : List (Option ℕ)) (places : List ℕ) → then_row stands targets (filter (leaves_at stands targets) places) ≡ filter_map (leaver targets) (row stands places)
left_row stands targets [] = refl
left_row stands targets (x ∷ xs) = left_head stands targets x xs (target_of targets (stand_at stands x)) refl (left_row stands targets xs)

pub land_high : (stands : List Stand) (targets : List (Option ℕ)) (order : Ordered) → AreSettled stands → AreRanked stands order → all_fit stands targets ≡ true
    → All IsHigh (then_row stands targets (filter (leaves_at stands targets) (order.low ++ order.high)))
land_high stands targets order are is fit =
    subst (λ (l : List Stand). All IsHigh l) (sym (left_row stands targets (order.low ++ order.high) ∙ ap (filter_map (leaver targets)) (row-append stands order.low order.high)))
    (leavers_high targets (row stands order.low ++ row stands order.high)
    (All-permutation (λ (stand : Stand). (to : ℕ) → target_of targets stand ≡ Some to → 2 ^ 40 ≤ to) stands (row stands order.low ++ row stands order.high) is.order.same
    (λ k d l to e. lands stands targets k to d are fit l e)))

stays_as : (stand : Stand) (o : Option ℕ) → is_some o ≡ false → sent stand o ≡ stand
stays_as stand None e = refl
stays_as stand (Some to) e = cc

-- ---- a further object

row_same : (stands : List Stand) (new : Stand) (places : List ℕ) → All (λ place. place < length stands) places → row (stands ++ new ∷ []) places ≡ row stands places
row_same stands new places within =
    same_lists (row (stands ++ new ∷ []) places) (row stands places) (length-map places (stand_at (stands ++ new ∷ [])) ∙ sym (length-map places (stand_at stands)))
    (λ k d l.
    let size = length-map places (stand_at (stands ++ new ∷ [])) in
    let here : k < length places = omega arith in
    get_or-map (stand_at (stands ++ new ∷ [])) places k 0 d here ∙ get_or_append_left stands (new ∷ []) nowhere (get_or places k 0) (within k 0 here)
    ∙ sym (get_or-map (stand_at stands) places k 0 d here))

all_push : (P : Stand → Type 0) (xs : List Stand) (x : Stand) → All P xs → P x → All P (xs ++ x ∷ [])
all_push P xs x h here k d l =
    let size = length_push xs x in
    elim (cases_lt k (length xs)) [
      | inl a ↦ rw (get_or_append_left xs (x ∷ []) d k a) (h k d a)
      | inr b ↦ rw (get_or_push xs x d k (let e : length xs ≡ k = omega arith in e)) here
    ]

pub ranked_added : (stands : List Stand) (order : Ordered) (size place : ℕ) → AreSettled stands → AreRanked stands order → place ≡ length stands → sum_by (λ (s : Stand). s.size) stands + size ≤ 67108864
    → AreRanked (stands ++ new_stand stands size ∷ []) (record { low = order.low ++ place ∷ []; high = order.high; room = order.room })
ranked_added stands order size place are is at fits =
    let new = new_stand stands size in
    let lows = row stands order.low in
    let highs = row stands order.high in
    let within = row_within stands order.low order.high are.numbered is.order.same in
    let low_same = row_same stands new order.low (all_left_of (λ (p : ℕ). p < length stands) order.low order.high within) in
    let high_same = row_same stands new order.high (all_right_of (λ (p : ℕ). p < length stands) order.low order.high within) in
    let last : stand_at (stands ++ new ∷ []) place ≡ new = get_or_push stands new nowhere place (sym at) in
    let low_is : row (stands ++ new ∷ []) (order.low ++ place ∷ []) ≡ lows ++ new ∷ [] =
    row-append (stands ++ new ∷ []) order.low (place ∷ []) ∙ ap (λ (l : List Stand). l ++ stand_at (stands ++ new ∷ []) place ∷ []) low_same ∙ ap (λ (s : Stand). lows ++ s ∷ []) last in
    let low_new : IsLow new = omega arith in
    ranked_from (stands ++ new ∷ []) (record { low = order.low ++ place ∷ []; high = order.high; room = order.room }) (lows ++ new ∷ []) highs low_is high_same
    (record {
      same = IsPermutation-trans (stands ++ new ∷ []) (new ∷ stands) ((lows ++ new ∷ []) ++ highs) (IsPermutation-to_front stands new)
          (IsPermutation-trans (new ∷ stands) (new ∷ (lows ++ highs)) ((lows ++ new ∷ []) ++ highs) (IsPermutation-cons new stands (lows ++ highs) is.order.same)
          (subst (λ (l : List Stand). IsPermutation (new ∷ (lows ++ highs)) l) (sym (append_assoc lows (new ∷ []) highs))
          (IsPermutation-sym (lows ++ new ∷ highs) (new ∷ (lows ++ highs)) (IsPermutation-middle lows new highs))));
      sorted = sorted_between lows highs new is.order.sorted is.lower is.upper low_new (last_low stands (lows ++ highs) (65536 + sum_by (λ (s : Stand). s.size) stands) are is.order refl);
    })
    (all_push IsLow lows new is.lower low_new) is.upper

-- ---- one object of an order

get-row : (stands : List Stand) (places : List ℕ) (rank : ℕ) → rank < length places → slice_get (row stands places) rank ≡ Some (stand_at stands (get_or places rank 0))
get-row stands [] rank l = absurd (omega arith)
get-row stands (p ∷ places) zero l = refl
get-row stands (p ∷ places) (suc rank) l = get-row stands places rank (let h : rank < length places = omega arith in h)

pub get-row_low : (stands : List Stand) (low high : List ℕ) (rank : ℕ) → rank < length low → slice_get (row stands low ++ row stands high) rank ≡ Some (stand_at stands (get_or low rank 0))
get-row_low stands [] high rank l = absurd (omega arith)
get-row_low stands (p ∷ low) high zero l = refl
get-row_low stands (p ∷ low) high (suc rank) l = get-row_low stands low high rank (let h : rank < length low = omega arith in h)

pub get-row_high : (stands : List Stand) (low high : List ℕ) (rank : ℕ) → length low ≤ rank → rank < length low + length high
    → slice_get (row stands low ++ row stands high) rank ≡ Some (stand_at stands (get_or high (rank - length low) 0))
get-row_high stands [] high rank le l = let same : rank - 0 ≡ rank = omega arith in rw same (get-row stands high rank (omega arith))
get-row_high stands (p ∷ low) high zero le l = absurd (omega arith)
get-row_high stands (p ∷ low) high (suc rank) le l =
    let same : suc rank - suc (length low) ≡ rank - length low = omega arith in
    rw same (get-row_high stands low high rank (let h : length low ≤ rank = omega arith in h) (let h : rank < length low + length high = omega arith in h))

pub row_get : (stands : List Stand) (places : List ℕ) (k : ℕ) (d : Stand) → k < length places → get_or (row stands places) k d ≡ stand_at stands (get_or places k 0)
row_get stands places k d l = get_or-map (stand_at stands) places k 0 d l

pub row-length : (stands : List Stand) (places : List ℕ) → length (row stands places) ≡ length places
row-length stands places = length-map places (stand_at stands)

pub then_get : (stands : List Stand) (targets : List (Option ℕ)) (places : List ℕ) (k : ℕ) (d : Stand) → k < length places → get_or (then_row stands targets places) k d ≡ then_at stands targets (get_or places k 0)
then_get stands targets places k d l = get_or-map (then_at stands targets) places k 0 d l

pub then-length : (stands : List Stand) (targets : List (Option ℕ)) (places : List ℕ) → length (then_row stands targets places) ≡ length places
then-length stands targets places = length-map places (then_at stands targets)

pub then_push : (stands : List Stand) (targets : List (Option ℕ)) (places : List ℕ) (p : ℕ) → then_row stands targets (places ++ p ∷ []) ≡ then_row stands targets places ++ then_at stands targets p ∷ []
then_push stands targets places p = map-append (then_at stands targets) places (p ∷ [])

-- one that stays, as it is
pub then_stays : (stands : List Stand) (targets : List (Option ℕ)) (p : ℕ) → is_some (target_of targets (stand_at stands p)) ≡ false → then_at stands targets p ≡ stand_at stands p
then_stays stands targets p e = stays_as (stand_at stands p) (target_of targets (stand_at stands p)) e

-- ---- the order after a group

pub leaving-length : (stands : List Stand) (targets : List (Option ℕ)) (order : Ordered)
    → length (filter (stays targets) (ranks stands order)) + length (filter (leaves_at stands targets) (order.low ++ order.high)) ≡ length (ranks stands order)
leaving-length stands targets order =
    let all = left_row stands targets (order.low ++ order.high) ∙ ap (filter_map (leaver targets)) (row-append stands order.low order.high) in
    let count = sym (then-length stands targets (filter (leaves_at stands targets) (order.low ++ order.high))) ∙ ap length all in
    let split = split-length targets (ranks stands order) in omega arith

-- those that leave, in the order of their targets
pub leaving_same : (stands : List Stand) (targets : List (Option ℕ)) (order : Ordered) (gathered sorted : List ℕ) → gathered ≡ filter (leaves_at stands targets) (order.low ++ order.high)
    → IsPermutation gathered sorted → IsPermutation (filter_map (leaver targets) (ranks stands order)) (then_row stands targets sorted)
leaving_same stands targets order gathered sorted e p =
    let all = left_row stands targets (order.low ++ order.high) ∙ ap (filter_map (leaver targets)) (row-append stands order.low order.high) in
    subst (λ (l : List Stand). IsPermutation l (then_row stands targets sorted)) (ap (then_row stands targets) e ∙ all) (IsPermutation-map (then_at stands targets) gathered sorted p)

pub rising_map : {X Y : Type 0} (f : X → Y) (key : Y → ℕ) (xs : List X) (e : X) → IsNonDecreasingBy (λ x. key (f x)) xs → IsNonDecreasingBy key (map f xs)
rising_map f key xs e rises i j d le l =
    let size = length-map xs f in
    let a : i < length xs = omega arith in
    let b : j < length xs = omega arith in
    rw (get_or-map f xs i e d a, get_or-map f xs j e d b) (rises i j e le b)

pub ranks-length : (stands : List Stand) (order : Ordered) → length (ranks stands order) ≡ length order.low + length order.high
ranks-length stands order =
    let all = length-append (row stands order.low) (row stands order.high) in
    let low = row-length stands order.low in
    let high = row-length stands order.high in omega arith
