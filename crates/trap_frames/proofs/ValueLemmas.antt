-- What is shown of the locations of a frame, one by one.
use Rattle.std.proofs.Common.{◌≡◌, ℕ, suc, ◌+◌, ◌-◌, ◌<◌, List, [], ◌∷◌, ◌++◌, map, take, drop, slice_index, refl, sym, ap, ◌∙◌, arith, Option, Some, None, append_assoc}
use Rattle.std.specs.Prelude.{option_map, slice_get}
use Rattle.std.proofs.lemmas.List.{map-append}
use Rattle.list_laws.proofs.Places.{drop_at}
use Rattle.moving_heap.specs.declared.stands.Stand.{Stand}
use Rattle.moving_heap.specs.Places.{stands_at}
use Rattle.map_bytes.specs.declared.values.Place.{Place}
use Rattle.frame_walk.specs.Maps.{Pair}
use Rattle.machine_meaning.specs.TrapLines.{shown_by, shown_over, shown_word}
use Rattle.trap_frames.specs.declared.deopts.Shown.{Shown}
use Rattle.trap_frames.specs.DeoptLines.{shown_text}

module _ (stands : List Stand) (words : List ℕ) (word : ℕ) where
  -- a slot that no pair has as its derived one
  pub unbased : (found : Option Pair) → None ≡ option_map (λ (pair : Pair). pair.base) found → shown_by stands words word found ≡ shown_word word
  unbased None is = refl
  unbased (Some pair) is = cc

  -- one that has a base slot
  pub based : (found : Option Pair) (base : ℕ) → Some base ≡ option_map (λ (pair : Pair). pair.base) found
      → shown_by stands words word found ≡ shown_over (slice_index words base) word (stands_at stands (slice_index words base))
  based None base is = cc
  based (Some pair) base is =
      let same : pair.base ≡ base = cc in
      ap (λ (b : ℕ). shown_over (slice_index words b) word (stands_at stands (slice_index words b))) same

-- one location more
pub value_more : (f : Place → List ℕ) (places : List Place) (index end : ℕ) (place : Place) (values : List Shown) (value : Shown) (whole : List (List ℕ))
    → slice_get places index ≡ Some place → index < end → shown_text value ≡ f place
    → map shown_text values ++ map f (take (end - index) (drop index places)) ≡ whole
    → map shown_text (values ++ value ∷ []) ++ map f (take (end - (index + 1)) (drop (index + 1) places)) ≡ whole
value_more f places index end place values value whole is within shown so_far =
    let count : end - index ≡ suc (end - (index + 1)) = omega (arith, within) in
    let rest : List (List ℕ) = map f (take (end - (index + 1)) (drop (index + 1) places)) in
    ap (λ (l : List (List ℕ)). l ++ rest) (map-append shown_text values (value ∷ []))
    ∙ append_assoc (map shown_text values) (shown_text value ∷ []) rest
    ∙ ap (λ (text : List ℕ). map shown_text values ++ text ∷ rest) shown
    ∙ ap (λ (l : List Place). map shown_text values ++ map f (take (suc (end - (index + 1))) l)) (sym (drop_at places index place is))
    ∙ ap (λ (n : ℕ). map shown_text values ++ map f (take n (drop index places))) (sym count)
    ∙ so_far
