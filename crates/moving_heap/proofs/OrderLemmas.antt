-- Objects in the order of their addresses: two parts, a merge, and what a group does to the order.
use Rattle.std.proofs.Common.{◌≡◌, ℕ, zero, suc, ◌+◌, ◌-◌, ◌<◌, ◌≤◌, ◌^◌, Bool, true, false, not, ◌&&◌, cond, inl, inr, List, [], ◌∷◌, ◌++◌, length, drop, map, get_or, refl, sym, ap, ◌∙◌, subst, arith, Option, Some, None}
use Rattle.std.specs.Prelude.{is_some, filter}
use Rattle.std.specs.List.{All, filter_map, list_all, insert}
use Rattle.std.specs.List.Sorted.{IsPermutation, IsNonDecreasingBy}
use Rattle.std.proofs.lemmas.Bool.{cases_lt}
use Rattle.std.proofs.lemmas.List.{drop_more, drop_all, append_assoc, append-nil, length-append, length_push, get_or_push, get_or_append_left, get_or-append_right, get_or-map, length-map, same_lists, length-drop, get_or_default}
use Rattle.std.proofs.lemmas.List.Folds.{list_all-append}
use Rattle.std.proofs.lemmas.List.Elements.{filter-append}
use Rattle.std.proofs.lemmas.List.Sums.{list_all-from_AllPass}
use Rattle.std.proofs.lemmas.List.Sorted.{IsPermutation-refl, IsPermutation-sym, IsPermutation-trans, IsPermutation-cons, IsPermutation-middle, IsPermutation-append_right, All-permutation, length_permutation, IsNonDecreasingBy-push, IsNonDecreasingBy-insert, IsNonDecreasingBy-take, IsNonDecreasingBy-drop}
use Rattle.std.proofs.Math.Seq.{take-append_seam, drop-append_seam}
use Rattle.moving_heap.specs.declared.stands.Stand.{Stand}
use Rattle.moving_heap.specs.Places.{apart, clear, moved, sent}
use Rattle.moving_heap.specs.Orders.{target_of, stays, leaver, sent_by, IsLow, IsHigh}
use Rattle.moving_heap.specs.Settled.{IsNumbered}
use Rattle.moving_heap.proofs.ApartLemmas.{clear_from}
use Rattle.list_laws.proofs.Numbers.{less}

abbrev pub blank : Stand
blank = record { number = 0; size = 0; address = 0 }

above : (a b : ℕ) → a < b → suc a < suc b
above a b h = omega arith

abbrev Rises : List Stand → Type 0
Rises stands = IsNonDecreasingBy (λ stand. stand.address) stands

-- ---- the two parts of the order

pub sorted_left : (xs ys : List Stand) → Rises (xs ++ ys) → Rises xs
sorted_left xs ys h = subst (λ (l : List Stand). Rises l) (take-append_seam xs ys) (IsNonDecreasingBy-take (λ (s : Stand). s.address) (length xs) (xs ++ ys) h)

pub sorted_right : (xs ys : List Stand) → Rises (xs ++ ys) → Rises ys
sorted_right xs ys h = subst (λ (l : List Stand). Rises l) (drop-append_seam xs ys) (IsNonDecreasingBy-drop (λ (s : Stand). s.address) (length xs) (xs ++ ys) h)

pub all_left : (P : Stand → Type 0) (xs ys : List Stand) → All P (xs ++ ys) → All P xs
all_left P xs ys h k d l = rw (← get_or_append_left xs ys d k l) (h k d (let size = length-append xs ys in omega arith))

pub all_right : (P : Stand → Type 0) (xs ys : List Stand) → All P (xs ++ ys) → All P ys
all_right P xs ys h k d l =
    let size = length-append xs ys in
    let at : (length xs + k) - length xs ≡ k = omega arith in
    subst (λ (n : ℕ). P (get_or ys n d)) at
    (subst (λ (s : Stand). P s) (get_or-append_right xs ys (length xs) (length xs + k) d refl (omega arith)) (h (length xs + k) d (omega arith)))

pub all_append : (P : Stand → Type 0) (xs ys : List Stand) → All P xs → All P ys → All P (xs ++ ys)
all_append P xs ys a b k d l =
    let size = length-append xs ys in
    elim (cases_lt k (length xs)) [
      | inl h ↦ rw (get_or_append_left xs ys d k h) (a k d h)
      | inr h ↦ rw (get_or-append_right xs ys (length xs) k d refl h) (b (k - length xs) d (omega arith))
    ]

all_cons : (P : Stand → Type 0) (x : Stand) (xs : List Stand) → P x → All P xs → All P (x ∷ xs)
all_cons P x xs here rest zero d l = here
all_cons P x xs here rest (suc k) d l = rest k d (less k (length xs) l)

-- a low part before a high one
pub sorted_parts : (xs ys : List Stand) → Rises xs → Rises ys → All IsLow xs → All IsHigh ys → Rises (xs ++ ys)
sorted_parts xs ys sx sy low high i j d le lj =
    let size = length-append xs ys in
    elim (cases_lt j (length xs)) [
      | inl h ↦ (let hi : i < length xs = omega arith in rw (get_or_append_left xs ys d i hi, get_or_append_left xs ys d j h) (sx i j d le h))
      | inr h ↦ (elim (cases_lt i (length xs)) [
        | inl hi ↦ (
            let a = low i d hi in let b = high (j - length xs) d (omega arith) in
            rw (get_or_append_left xs ys d i hi, get_or-append_right xs ys (length xs) j d refl h) (omega arith))
        | inr hi ↦ rw (get_or-append_right xs ys (length xs) i d refl hi, get_or-append_right xs ys (length xs) j d refl h) (sy (i - length xs) (j - length xs) d (omega arith) (omega arith))
      ])
    ]

and_regroup : (a b c : Bool) → ((a && true) && (b && c)) ≡ ((a && b) && c)
and_regroup true b c = refl
and_regroup false b c = refl

low_clear : (x : Stand) (ys : List Stand) → IsLow x → All IsHigh ys → list_all (clear x) ys ≡ true
low_clear x ys low high =
    list_all-from_AllPass (clear x) ys (λ k d l. clear_from x (get_or ys k d) (inl (let h = high k d l in omega arith)))

-- a low part and a high one are apart exactly where each is
pub apart_parts : (xs ys : List Stand) → All IsLow xs → All IsHigh ys → apart (xs ++ ys) ≡ (apart xs && apart ys)
apart_parts [] ys low high = refl
apart_parts (x ∷ xs) ys low high =
    let here = low zero blank (omega arith) in
    ap (λ b. b && apart (xs ++ ys)) (list_all-append (clear x) xs ys ∙ ap (λ b. list_all (clear x) xs && b) (low_clear x ys here high))
    ∙ ap (λ b. (list_all (clear x) xs && true) && b) (apart_parts xs ys (λ k d l. low (suc k) d (above k (length xs) l)) high)
    ∙ and_regroup (list_all (clear x) xs) (apart xs) (apart ys)

-- a further object goes behind the low part
insert_between : (xs ys : List Stand) (x : Stand) → insert (xs ++ ys) (length xs) x ≡ (xs ++ x ∷ []) ++ ys
insert_between xs ys x =
    ap (λ (l : List Stand). l ++ x ∷ drop (length xs) (xs ++ ys)) (take-append_seam xs ys) ∙ ap (λ (l : List Stand). xs ++ x ∷ l) (drop-append_seam xs ys)
    ∙ sym (append_assoc xs (x ∷ []) ys)

pub sorted_between : (xs ys : List Stand) (x : Stand) → Rises (xs ++ ys) → All IsLow xs → All IsHigh ys → IsLow x → All (λ other. IsLow other → other.address ≤ x.address) (xs ++ ys)
    → Rises ((xs ++ x ∷ []) ++ ys)
sorted_between xs ys x sorted low high here last =
    let size = length-append xs ys in
    subst (λ (l : List Stand). Rises l) (insert_between xs ys x)
    (IsNonDecreasingBy-insert (λ (s : Stand). s.address) (xs ++ ys) (length xs) x sorted (omega arith)
    (λ k d l. last k d (omega arith) (rw (get_or_append_left xs ys d k l) (low k d l)))
    (λ k d le l. rw (get_or-append_right xs ys (length xs) k d refl le) (let h = high (k - length xs) d (omega arith) in omega arith)))

-- ---- those that stay and those that leave

pub stay_step : (targets : List (Option ℕ)) (run : List Stand) (i : ℕ) (d : Stand) → i < length run → is_some (target_of targets (get_or run i d)) ≡ false
    → filter (stays targets) (drop i run) ≡ get_or run i d ∷ filter (stays targets) (drop (i + 1) run)
stay_step targets run i d l e =
    ap (λ (rest : List Stand). filter (stays targets) rest) (drop_more run i d l)
    ∙ ap (λ b. cond (not b) (get_or run i d ∷ filter (stays targets) (drop (i + 1) run)) (filter (stays targets) (drop (i + 1) run))) e

pub stay_skip : (targets : List (Option ℕ)) (run : List Stand) (i : ℕ) (d : Stand) → i < length run → is_some (target_of targets (get_or run i d)) ≡ true
    → filter (stays targets) (drop i run) ≡ filter (stays targets) (drop (i + 1) run)
stay_skip targets run i d l e =
    ap (λ (rest : List Stand). filter (stays targets) rest) (drop_more run i d l)
    ∙ ap (λ b. cond (not b) (get_or run i d ∷ filter (stays targets) (drop (i + 1) run)) (filter (stays targets) (drop (i + 1) run))) e

split_first : (targets : List (Option ℕ)) (x : Stand) (xs : List Stand) (o : Option ℕ) → target_of targets x ≡ o
    → IsPermutation (map (sent_by targets) xs) (filter (stays targets) xs ++ filter_map (leaver targets) xs)
    → IsPermutation (map (sent_by targets) (x ∷ xs)) (filter (stays targets) (x ∷ xs) ++ filter_map (leaver targets) (x ∷ xs))
split_first targets x xs None e p = rw e (IsPermutation-cons x (map (sent_by targets) xs) (filter (stays targets) xs ++ filter_map (leaver targets) xs) p)
split_first targets x xs (Some to) e p =
    let y : Stand = record x { address = to } in
    let stay = filter (stays targets) xs in
    let leave = filter_map (leaver targets) xs in
    rw e (IsPermutation-trans (y ∷ map (sent_by targets) xs) (y ∷ (stay ++ leave)) (stay ++ y ∷ leave)
    (IsPermutation-cons y (map (sent_by targets) xs) (stay ++ leave) p) (IsPermutation-sym (stay ++ y ∷ leave) (y ∷ (stay ++ leave)) (IsPermutation-middle stay y leave)))

-- the objects after a group are those that stay and those that leave
pub split_by : (targets : List (Option ℕ)) (xs : List Stand) → IsPermutation (map (sent_by targets) xs) (filter (stays targets) xs ++ filter_map (leaver targets) xs)
split_by targets [] = IsPermutation-refl []
split_by targets (x ∷ xs) = split_first targets x xs (target_of targets x) refl (split_by targets xs)

pub split-length : (targets : List (Option ℕ)) (xs : List Stand) → length (filter (stays targets) xs) + length (filter_map (leaver targets) xs) ≡ length xs
split-length targets xs =
    sym (length-append (filter (stays targets) xs) (filter_map (leaver targets) xs))
    ∙ length_permutation (map (sent_by targets) xs) (filter (stays targets) xs ++ filter_map (leaver targets) xs) (split_by targets xs) ∙ length-map xs (sent_by targets)

-- ---- a merge

pub record AreMerged (targets : List (Option ℕ)) (run leaving : List Stand) (place taken : ℕ) (next : List Stand) : Type 0 where
  pub same : IsPermutation (next ++ (filter (stays targets) (drop place run) ++ drop taken leaving)) (filter (stays targets) run ++ leaving)
  pub sorted : IsNonDecreasingBy (λ stand. stand.address) next
  pub before_run : (k : ℕ) (d e : Stand) → place ≤ k → k < length run → 0 < length next → (get_or next (length next - 1) e).address ≤ (get_or run k d).address
  pub before_leaving : (k : ℕ) (d e : Stand) → taken ≤ k → k < length leaving → 0 < length next → (get_or next (length next - 1) e).address ≤ (get_or leaving k d).address

pub merged_none : (targets : List (Option ℕ)) (run leaving next : List Stand) → next ≡ [] → AreMerged targets run leaving 0 0 next
merged_none targets run leaving next e = rw e (record {
  same = IsPermutation-refl (filter (stays targets) run ++ leaving);
  sorted = λ i j d le lj. absurd (omega arith);
  before_run = λ k d e le l some. absurd (omega arith);
  before_leaving = λ k d e le l some. absurd (omega arith);
})

last_is : (xs : List Stand) (y e : Stand) → get_or (xs ++ y ∷ []) (length (xs ++ y ∷ []) - 1) e ≡ y
last_is xs y e = get_or_push xs y e (length (xs ++ y ∷ []) - 1) (let size = length_push xs y in omega arith)

push_leaving : (next stay leave : List Stand) (y : Stand) → IsPermutation ((next ++ y ∷ []) ++ (stay ++ leave)) (next ++ (stay ++ y ∷ leave))
push_leaving next stay leave y =
    rw (append_assoc next (y ∷ []) (stay ++ leave))
    (IsPermutation-append_right next (y ∷ (stay ++ leave)) (stay ++ y ∷ leave) (IsPermutation-sym (stay ++ y ∷ leave) (y ∷ (stay ++ leave)) (IsPermutation-middle stay y leave)))

pub merged_leaving : (targets : List (Option ℕ)) (run leaving next : List Stand) (place taken : ℕ) (y : Stand) → AreMerged targets run leaving place taken next
    → IsNonDecreasingBy (λ stand. stand.address) leaving → taken < length leaving → y ≡ get_or leaving taken y
    → ((k : ℕ) (d : Stand) → place ≤ k → k < length run → y.address ≤ (get_or run k d).address) → AreMerged targets run leaving place (taken + 1) (next ++ y ∷ [])
merged_leaving targets run leaving next place taken y are rises l is lower =
    let rest : drop taken leaving ≡ y ∷ drop (taken + 1) leaving = drop_more leaving taken y l ∙ ap (λ (s : Stand). s ∷ drop (taken + 1) leaving) (sym is) in
    let stay = filter (stays targets) (drop place run) in
    record {
      same = IsPermutation-trans ((next ++ y ∷ []) ++ (stay ++ drop (taken + 1) leaving)) (next ++ (stay ++ drop taken leaving)) (filter (stays targets) run ++ leaving)
          (subst (λ (q : List Stand). IsPermutation ((next ++ y ∷ []) ++ (stay ++ drop (taken + 1) leaving)) (next ++ (stay ++ q))) (sym rest) (push_leaving next stay (drop (taken + 1) leaving) y)) are.same;
      sorted = IsNonDecreasingBy-push (λ (s : Stand). s.address) next y are.sorted (λ d some. subst (λ (s : Stand). (get_or next (length next - 1) d).address ≤ s.address) (sym is) (are.before_leaving taken y d (omega arith) l some));
      before_run = λ k d e le lk some. subst (λ (s : Stand). s.address ≤ (get_or run k d).address) (sym (last_is next y e)) (lower k d le lk);
      before_leaving = λ k d e le lk some.
          subst (λ (s : Stand). s.address ≤ (get_or leaving k d).address) (sym (last_is next y e ∙ is ∙ get_or_default leaving taken y d l)) (rises taken k d (omega arith) lk);
    }

pub merged_stand : (targets : List (Option ℕ)) (run leaving next : List Stand) (place taken : ℕ) (x : Stand) → AreMerged targets run leaving place taken next
    → IsNonDecreasingBy (λ stand. stand.address) run → place < length run → x ≡ get_or run place x → is_some (target_of targets x) ≡ false
    → ((k : ℕ) (d : Stand) → taken ≤ k → k < length leaving → x.address ≤ (get_or leaving k d).address) → AreMerged targets run leaving (place + 1) taken (next ++ x ∷ [])
merged_stand targets run leaving next place taken x are rises l is stay lower =
    let rest : filter (stays targets) (drop place run) ≡ x ∷ filter (stays targets) (drop (place + 1) run) =
    stay_step targets run place x l (ap (λ (s : Stand). is_some (target_of targets s)) (sym is) ∙ stay) ∙ ap (λ (s : Stand). s ∷ filter (stays targets) (drop (place + 1) run)) (sym is) in
    record {
      same = rw (append_assoc next (x ∷ []) (filter (stays targets) (drop (place + 1) run) ++ drop taken leaving))
          (subst (λ (q : List Stand). IsPermutation (next ++ (q ++ drop taken leaving)) (filter (stays targets) run ++ leaving)) rest are.same);
      sorted = IsNonDecreasingBy-push (λ (s : Stand). s.address) next x are.sorted (λ d some. subst (λ (s : Stand). (get_or next (length next - 1) d).address ≤ s.address) (sym is) (are.before_run place x d (omega arith) l some));
      before_run = λ k d e le lk some.
          subst (λ (s : Stand). s.address ≤ (get_or run k d).address) (sym (last_is next x e ∙ is ∙ get_or_default run place x d l)) (rises place k d (omega arith) lk);
      before_leaving = λ k d e le lk some. subst (λ (s : Stand). s.address ≤ (get_or leaving k d).address) (sym (last_is next x e)) (lower k d le lk);
    }

pub merged_skip : (targets : List (Option ℕ)) (run leaving next : List Stand) (place taken : ℕ) (x : Stand) → AreMerged targets run leaving place taken next
    → place < length run → x ≡ get_or run place x → is_some (target_of targets x) ≡ true → AreMerged targets run leaving (place + 1) taken next
merged_skip targets run leaving next place taken x are l is leave =
    let rest = stay_skip targets run place x l (ap (λ (s : Stand). is_some (target_of targets s)) (sym is) ∙ leave) in
    record {
      same = subst (λ (q : List Stand). IsPermutation (next ++ (q ++ drop taken leaving)) (filter (stays targets) run ++ leaving)) rest are.same;
      sorted = are.sorted;
      before_run = λ k d e le lk some. are.before_run k d e (omega arith) lk some;
      before_leaving = are.before_leaving;
    }

merged-length : (targets : List (Option ℕ)) (run leaving next : List Stand) (place taken : ℕ) → AreMerged targets run leaving place taken next
    → length next + (length (filter (stays targets) (drop place run)) + length (drop taken leaving)) ≡ length (filter (stays targets) run) + length leaving
merged-length targets run leaving next place taken are =
    let stay = filter (stays targets) (drop place run) in
    let same = length_permutation (next ++ (stay ++ drop taken leaving)) (filter (stays targets) run ++ leaving) are.same in
    let a = length-append next (stay ++ drop taken leaving) in
    let b = length-append stay (drop taken leaving) in
    let c = length-append (filter (stays targets) run) leaving in
    omega arith

pub room_for_leaving : (targets : List (Option ℕ)) (run leaving next : List Stand) (place taken : ℕ) → AreMerged targets run leaving place taken next → taken < length leaving
    → length next < length (filter (stays targets) run) + length leaving
room_for_leaving targets run leaving next place taken are l =
    let all = merged-length targets run leaving next place taken are in let rest = length-drop taken leaving in omega arith

pub room_for_stand : (targets : List (Option ℕ)) (run leaving next : List Stand) (place taken : ℕ) (x : Stand) → AreMerged targets run leaving place taken next → place < length run
    → x ≡ get_or run place x → is_some (target_of targets x) ≡ false → length next < length (filter (stays targets) run) + length leaving
room_for_stand targets run leaving next place taken x are l is stay =
    let all = merged-length targets run leaving next place taken are in
    let rest = ap length (stay_step targets run place x l (ap (λ (s : Stand). is_some (target_of targets s)) (sym is) ∙ stay)) in omega arith

pub merged_all : (targets : List (Option ℕ)) (run leaving next : List Stand) (place taken : ℕ) → AreMerged targets run leaving place taken next → length run ≤ place → length leaving ≤ taken
    → IsPermutation (filter (stays targets) run ++ leaving) next
merged_all targets run leaving next place taken are lr ll =
    let none : filter (stays targets) (drop place run) ++ drop taken leaving ≡ [] = rw (drop_all place run lr, drop_all taken leaving ll) refl in
    IsPermutation-sym next (filter (stays targets) run ++ leaving)
    (subst (λ (l : List Stand). IsPermutation l (filter (stays targets) run ++ leaving)) (append-nil next)
    (subst (λ (l : List Stand). IsPermutation (next ++ l) (filter (stays targets) run ++ leaving)) none are.same))

-- ---- the order after a group

pub filled_same : (targets : List (Option ℕ)) (low high leaving merged : List Stand) → IsPermutation (filter (stays targets) high ++ leaving) merged
    → IsPermutation (filter (stays targets) (low ++ high) ++ leaving) (filter (stays targets) low ++ merged)
filled_same targets low high leaving merged p =
    rw (filter-append (stays targets) low high, append_assoc (filter (stays targets) low) (filter (stays targets) high) leaving)
    (IsPermutation-append_right (filter (stays targets) low) (filter (stays targets) high ++ leaving) merged p)

all_kept : (P : Stand → Type 0) (x : Stand) (xs : List Stand) (b : Bool) → P x → All P xs → All P (cond b (x ∷ xs) xs)
all_kept P x xs false here rest = rest
all_kept P x xs true here rest = all_cons P x xs here rest

all_filter : (P : Stand → Type 0) (p : Stand → Bool) (xs : List Stand) → All P xs → All P (filter p xs)
all_filter P p [] h = h
all_filter P p (x ∷ xs) h = all_kept P x (filter p xs) (p x) (h zero x (omega arith)) (all_filter P p xs (λ k d l. h (suc k) d (above k (length xs) l)))

pub low_stays : (targets : List (Option ℕ)) (low : List Stand) → All IsLow low → All IsLow (filter (stays targets) low)
low_stays targets low h = all_filter IsLow (stays targets) low h

pub merged_high : (targets : List (Option ℕ)) (high leaving merged : List Stand) → All IsHigh high → All IsHigh leaving → IsPermutation (filter (stays targets) high ++ leaving) merged → All IsHigh merged
merged_high targets high leaving merged h l p =
    All-permutation IsHigh (filter (stays targets) high ++ leaving) merged p (all_append IsHigh (filter (stays targets) high) leaving (all_filter IsHigh (stays targets) high h) l)

-- what is sent by number is what is moved
pub moved_by_number : (stands : List Stand) (targets : List (Option ℕ)) → IsNumbered stands → length (moved stands targets) ≡ length stands
    → ((k : ℕ) (d : Stand) → k < length stands → get_or (moved stands targets) k d ≡ sent (get_or stands k d) (get_or targets k None)) → moved stands targets ≡ map (sent_by targets) stands
moved_by_number stands targets numbered size each =
    same_lists (moved stands targets) (map (sent_by targets) stands) (size ∙ sym (length-map stands (sent_by targets)))
    (λ k d l.
    let within : k < length stands = subst (λ (n : ℕ). k < n) size l in
    let number = numbered.at k d within in
    let place : (get_or stands k d).number - 1 ≡ k = omega arith in
    each k d within ∙ ap (λ (n : ℕ). sent (get_or stands k d) (get_or targets n None)) (sym place) ∙ sym (get_or-map (sent_by targets) stands k d d within))

pub sent_order : (order leaving next : List Stand) (targets : List (Option ℕ)) → IsPermutation (filter_map (leaver targets) order) leaving
    → IsPermutation (filter (stays targets) order ++ leaving) next → IsPermutation (map (sent_by targets) order) next
sent_order order leaving next targets sorted p =
    let stay = filter (stays targets) order in
    let leave = filter_map (leaver targets) order in
    IsPermutation-trans (map (sent_by targets) order) (stay ++ leave) next (split_by targets order)
    (IsPermutation-trans (stay ++ leave) (stay ++ leaving) next (IsPermutation-append_right stay leave leaving sorted) p)

-- those that leave land in the upper half
leavers_head : (targets : List (Option ℕ)) (x : Stand) (xs : List Stand) (o : Option ℕ) → target_of targets x ≡ o → ((to : ℕ) → o ≡ Some to → 2 ^ 40 ≤ to)
    → All IsHigh (filter_map (leaver targets) xs) → All IsHigh (filter_map (leaver targets) (x ∷ xs))
leavers_head targets x xs None e h rest = rw e rest
leavers_head targets x xs (Some to) e h rest = rw e (all_cons IsHigh (record x { address = to }) (filter_map (leaver targets) xs) (h to refl) rest)

pub leavers_high : (targets : List (Option ℕ)) (xs : List Stand) → All (λ stand. (to : ℕ) → target_of targets stand ≡ Some to → 2 ^ 40 ≤ to) xs → All IsHigh (filter_map (leaver targets) xs)
leavers_high targets [] h = λ k d l. absurd (omega arith)
leavers_high targets (x ∷ xs) h =
    leavers_head targets x xs (target_of targets x) refl (h zero x (omega arith)) (leavers_high targets xs (λ k d l. h (suc k) d (above k (length xs) l)))
