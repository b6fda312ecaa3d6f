-- What a record says, location by location.
use Rattle.std.proofs.Common.{◌≡◌, ℕ, suc, ◌+◌, ◌-◌, ◌/◌, ◌%◌, ◌<◌, ◌≤◌, List, [], ◌∷◌, length, take, drop, refl, sym, ap, ◌∙◌, subst, arith, true, Bool, Some, eqb, ltb, ◌&&◌}
use Rattle.std.specs.Prelude.{slice_get}
use Rattle.std.specs.List.{list_all}
use Rattle.std.proofs.lemmas.Bool.{eq-eqb, lt-ltb}
use Rattle.std.proofs.lemmas.List.{drop-drop, drop_more, length-drop}
use Rattle.std.proofs.lemmas.Option.{get_or_from_slice_get, slice_get_within}
use Rattle.map_bytes.specs.declared.values.Place.{Place}
use Rattle.frame_walk.specs.Maps.{FrameEntry, deopt_count, deopt_places, is_deopt, is_slot, opens, pair_places, pairs_from, pairs_in, pairs_of, usable, word_place}

one_more : (places : List Place) (i : ℕ) (x : Place) → slice_get places i ≡ Some x → drop i places ≡ x ∷ drop (i + 1) places
one_more places i x e =
    drop_more places i x (slice_get_within places i x e) ∙ ap (λ (p : Place). p ∷ drop (i + 1) places) (get_or_from_slice_get places i x x e)

-- ---- tests of locations, one by one

pub all_from : (test : Place → Bool) (places : List Place) (i : ℕ) (x : Place) → slice_get places i ≡ Some x
    → list_all test (drop i places) ≡ (test x && list_all test (drop (i + 1) places))
all_from test places i x e = ap (list_all test) (one_more places i x e)

pub all_within : (test : Place → Bool) (places : List Place) (i n : ℕ) (x : Place) → slice_get places i ≡ Some x
    → list_all test (take (n + 1) (drop i places)) ≡ (test x && list_all test (take n (drop (i + 1) places)))
all_within test places i n x e =
    let more : n + 1 ≡ suc n = omega arith in
    ap (λ (k : ℕ). list_all test (take k (drop i places))) more ∙ ap (λ (l : List Place). list_all test (take (suc n) l)) (one_more places i x e)

-- where the pairs begin
module _ (one : FrameEntry) (first : ℕ) (is : first ≡ 3 + deopt_count one.places) where
  pub behind_deopt : drop first one.places ≡ pair_places one
  behind_deopt = ap (λ (n : ℕ). drop n one.places) is ∙ sym (drop-drop (deopt_count one.places) 3 one.places)

  pub first_pairs : pairs_from first one ≡ pairs_of one
  first_pairs = ap pairs_in behind_deopt

  pub deopt_until : take (first - 3) (drop 3 one.places) ≡ deopt_places one
  deopt_until = let count : first - 3 ≡ deopt_count one.places = omega (arith, is) in ap (λ (n : ℕ). take n (drop 3 one.places)) count

  many_behind : length one.places - first ≡ length (pair_places one)
  many_behind =
      let behind = length-drop (deopt_count one.places) (drop 3 one.places) in let all = length-drop 3 one.places in omega (arith, is, behind, all)

  -- a frame that the stack has room for, and a record that opens as it should
  usable_by : (left : ℕ) → one.frame_bytes % 8 ≡ 0 → one.frame_bytes / 8 < left → opens one.places ≡ true
      → usable left one
      ≡ (list_all (is_deopt one.frame_bytes) (take (first - 3) (drop 3 one.places))
      && (eqb ((length one.places - first) % 2) 0 && list_all (is_slot one.frame_bytes) (drop first one.places)))
  usable_by left whole fits opened =
      let rest = list_all (is_deopt one.frame_bytes) (deopt_places one) && (eqb (length (pair_places one) % 2) 0 && list_all (is_slot one.frame_bytes) (pair_places one)) in
      ap (λ (b : Bool). (b && ltb (one.frame_bytes / 8) left) && (opens one.places && rest)) (eq-eqb (one.frame_bytes % 8) 0 whole)
      ∙ ap (λ (b : Bool). b && (opens one.places && rest)) (lt-ltb (one.frame_bytes / 8) left fits)
      ∙ ap (λ (b : Bool). b && rest) opened
      ∙ ap (λ (l : List Place). list_all (is_deopt one.frame_bytes) l && (eqb (length (pair_places one) % 2) 0 && list_all (is_slot one.frame_bytes) (pair_places one))) (sym deopt_until)
      ∙ ap (λ (n : ℕ). list_all (is_deopt one.frame_bytes) (take (first - 3) (drop 3 one.places)) && (eqb (n % 2) 0 && list_all (is_slot one.frame_bytes) (pair_places one))) (sym many_behind)
      ∙ ap (λ (l : List Place). list_all (is_deopt one.frame_bytes) (take (first - 3) (drop 3 one.places)) && (eqb ((length one.places - first) % 2) 0 && list_all (is_slot one.frame_bytes) l)) (sym behind_deopt)

  -- the same by bytes that are the frame's
  pub usable_is : (bytes left : ℕ) → bytes ≡ one.frame_bytes → bytes % 8 ≡ 0 → bytes / 8 < left → opens one.places ≡ true
      → usable left one
      ≡ (list_all (is_deopt bytes) (take (first - 3) (drop 3 one.places)) && (eqb ((length one.places - first) % 2) 0 && list_all (is_slot bytes) (drop first one.places)))
  usable_is bytes left e whole fits opened =
      subst (λ (b : ℕ). b % 8 ≡ 0 → b / 8 < left → usable left one
      ≡ (list_all (is_deopt b) (take (first - 3) (drop 3 one.places)) && (eqb ((length one.places - first) % 2) 0 && list_all (is_slot b) (drop first one.places))))
      (sym e) (λ even within. usable_by left even within opened) whole fits

-- ---- pairs

pub pair_step : (places : List Place) (at : ℕ) (base derived : Place) → slice_get places at ≡ Some base → slice_get places (at + 1) ≡ Some derived
    → pairs_in (drop at places) ≡ record { base = word_place base; derived = word_place derived } ∷ pairs_in (drop (at + 2) places)
pair_step places at base derived b d =
    let two : at + 1 + 1 ≡ at + 2 = omega arith in
    ap pairs_in (one_more places at base b) ∙ ap (λ (l : List Place). pairs_in (base ∷ l)) (one_more places (at + 1) derived d)
    ∙ ap (λ (n : ℕ). record { base = word_place base; derived = word_place derived } ∷ pairs_in (drop n places)) two

short_pairs : (places : List Place) → length places ≤ 1 → pairs_in places ≡ []
short_pairs [] h = refl
short_pairs (one ∷ []) h = refl
short_pairs (one ∷ two ∷ rest) h = absurd (omega arith)

pub pairs_end : (places : List Place) (at : ℕ) → length places ≤ at + 1 → pairs_in (drop at places) ≡ []
pairs_end places at h = let n = length-drop at places in short_pairs (drop at places) (omega arith)
