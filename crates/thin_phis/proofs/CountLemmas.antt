-- How many names below a number stay.
use Rattle.std.proofs.Common.{◌≡◌, ◌∙◌, ℕ, zero, suc, ◌≤◌, ◌+◌, ◌-◌, Bool, true, false, if◌then◌else◌, List, [], ◌∷◌, ◌++◌, length, map, get_or, Some, refl, ap, arith}
use Rattle.std.specs.List.{filter, range_with_len}
use Rattle.std.proofs.lemmas.Bool.{eq-eqb}
use Rattle.std.proofs.lemmas.List.{get_or_past, length-append}
use Rattle.std.proofs.lemmas.List.Elements.{filter-append}
use Rattle.std.proofs.lemmas.Option.{get_or_from_slice_get}
use Rattle.list_laws.proofs.Places.{get_map, map_append}
use Rattle.list_laws.proofs.Ranges.{range_append, range_get, range_more}
use Rattle.phi_webs.specs.Forests.{up_of}
use Rattle.thin_phis.specs.Thinned.{stays, kept_below}
use Rattle.thin_phis.proofs.NumberLaws.{all_stay}

few_pass : (p : ℕ → Bool) (from count : ℕ) → length (filter p (range_with_len from count)) ≤ count
few_pass p from zero = omega arith
few_pass p from (suc count) = by (p from) (few_pass p (from + 1) count)
  where
    by : (t : Bool) → length (filter p (range_with_len (from + 1) count)) ≤ count
        → length (if t then from ∷ filter p (range_with_len (from + 1) count) else filter p (range_with_len (from + 1) count)) ≤ suc count
    by true few = omega arith
    by false few = omega arith

pub kept_few : (ends : List ℕ) (n : ℕ) → kept_below ends n ≤ n
kept_few ends n = few_pass (stays ends) 0 n

pub kept_next : (ends : List ℕ) (n : ℕ) → kept_below ends (n + 1) ≡ kept_below ends n + (if stays ends n then 1 else 0)
kept_next ends n =
    ap (λ (ns : List ℕ). length (filter (stays ends) ns)) (range_more 0 n)
    ∙ ap length (filter-append (stays ends) (range_with_len 0 n) ((0 + n) ∷ []))
    ∙ length-append (filter (stays ends) (range_with_len 0 n)) (filter (stays ends) ((0 + n) ∷ []))
    ∙ ap (λ (m : ℕ). kept_below ends n + length (filter (stays ends) (m ∷ []))) (let z : 0 + n ≡ n = omega arith in z)
    ∙ ap (λ (m : ℕ). kept_below ends n + m) (by (stays ends n))
  where
    by : (t : Bool) → length (if t then n ∷ [] else []) ≡ (if t then 1 else 0)
    by true = refl
    by false = refl

past_stays : (ends : List ℕ) (n : ℕ) → length ends ≤ n → stays ends n ≡ true
past_stays ends n past = eq-eqb (up_of ends n) n (get_or_past ends n n past)

pub kept_past : (ends : List ℕ) (n : ℕ) → length ends ≤ n → kept_below ends n ≡ kept_below ends (length ends) + (n - length ends)
kept_past ends n past =
    let more = n - length ends in
    let split : n ≡ length ends + more = omega arith in
    ap (kept_below ends) split
    ∙ ap (λ (ns : List ℕ). length (filter (stays ends) ns)) (range_append 0 (length ends) more)
    ∙ ap length (filter-append (stays ends) (range_with_len 0 (length ends)) (range_with_len (0 + length ends) more))
    ∙ length-append (filter (stays ends) (range_with_len 0 (length ends))) (filter (stays ends) (range_with_len (0 + length ends) more))
    ∙ ap (λ (m : ℕ). kept_below ends (length ends) + m) (all_stay (stays ends) (0 + length ends) more (λ i le. past_stays ends i (omega arith)))

pub range_push : {A : Type 0} (f : ℕ → A) (n : ℕ) → map f (range_with_len 0 (n + 1)) ≡ map f (range_with_len 0 n) ++ f n ∷ []
range_push {A} f n =
    ap (map f) (range_more 0 n) ∙ map_append f (range_with_len 0 n) ((0 + n) ∷ [])
    ∙ ap (λ (m : ℕ). map f (range_with_len 0 n) ++ f m ∷ []) (let z : 0 + n ≡ n = omega arith in z)

-- a count that stands in the table
pub counted_at : (ends kept : List ℕ) → kept ≡ map (kept_below ends) (range_with_len 0 (length ends + 1)) → (i : ℕ) → i ≤ length ends → get_or kept i 0 ≡ kept_below ends i
counted_at ends kept is i le =
    let z : 0 + i ≡ i = omega arith in
    ap (λ (ns : List ℕ). get_or ns i 0) is
    ∙ get_or_from_slice_get (map (kept_below ends) (range_with_len 0 (length ends + 1))) i (kept_below ends i) 0
    (get_map (kept_below ends) (range_with_len 0 (length ends + 1)) i i (range_get 0 (length ends + 1) i (omega arith) ∙ ap Some z))
