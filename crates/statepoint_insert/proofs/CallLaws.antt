-- The live list of a call is that at its place among the calls.
use Rattle.std.proofs.Common.{◌≡◌, ℕ, zero, suc, cond, ◌+◌, ◌<◌, true, List, [], ◌∷◌, length, take, refl, ap, sym, arith, Some, slice_get, inl, inr, ◌∙◌}
use Rattle.std.specs.Prelude.{count_by}
use Rattle.std.specs.List.{sum_by, flat_map, range_with_len}
use Rattle.std.proofs.lemmas.Bool.{cases_Bool}
use Rattle.std.proofs.lemmas.List.Sums.{sum_by-cons}
use Rattle.list_laws.proofs.Places.{get_front, get_past}
use Rattle.ir_ast.specs.declared.ops.Operand.{Operand}
use Rattle.ir_ast.specs.Funcs.{Function}
use Rattle.object_meaning.specs.Lines.{Line}
use Rattle.rewriting_forms.specs.Numbered.{lines_at, calls}
use Rattle.rewriting_forms.specs.Liveness.{live_list, lists_from, live_lists}
use Rattle.statepoint_insert.specs.Calls.{calls_in, calls_before}

pub count_cons : (line : Line) (lines : List Line) → count_by calls (line ∷ lines) ≡ cond (calls line) 1 0 + count_by calls lines
count_cons line lines = sum_by-cons (λ (l : Line). cond (calls l) 1 0) line lines

module _ (func : Function) (table : List Operand) where
  pub lists_count : (b k : ℕ) (lines : List Line) → length (lists_from func table b k lines) ≡ count_by calls lines
  lists_count b k [] = refl
  lists_count b k (line ∷ lines) = elim (cases_Bool (calls line)) [
    | inl is ↦
        let rest = lists_count b (suc k) lines in
        let one = count_cons line lines in
        let g = rw is at one in
        rw is (omega (arith, rest, g))
    | inr other ↦
        let rest = lists_count b (suc k) lines in
        let one = count_cons line lines in
        let g = rw other at one in
        rw other (omega (arith, rest, g))
  ]

  -- within a block
  list_in : (b first k : ℕ) (line : Line) (lines : List Line) → slice_get lines k ≡ Some line → calls line ≡ true
      → slice_get (lists_from func table b first lines) (count_by calls (take k lines)) ≡ Some (live_list func table b (first + k))
  list_in b first k line [] stands is = absurd (cc)
  list_in b first zero line (one ∷ lines) stands is =
      let same : one ≡ line = cc in
      let here : calls one ≡ true = ap (λ (l : Line). calls l) same ∙ is in
      let at : first ≡ first + 0 = omega arith in
      rw here (ap (λ (n : ℕ). Some (live_list func table b n)) at)
  list_in b first (suc k) line (one ∷ lines) stands is =
      let rest = list_in b (suc first) k line lines stands is in
      let at : suc first + k ≡ first + suc k = omega arith in
      let count = count_cons one (take k lines) in
      let tail = rest ∙ ap (λ (n : ℕ). Some (live_list func table b n)) at in
      elim (cases_Bool (calls one)) [
        | inl here ↦
            let g = rw here at count in
            let more : count_by calls (one ∷ take k lines) ≡ suc (count_by calls (take k lines)) = omega (arith, g) in
            rw (here, more) tail
        | inr other ↦
            let g = rw other at count in
            let more : count_by calls (one ∷ take k lines) ≡ count_by calls (take k lines) = omega (arith, g) in
            rw (other, more) tail
      ]

  -- joined lists
  flat_get : {A : Type 0} (f : ℕ → List A) (size : ℕ → ℕ) → ((b : ℕ) → length (f b) ≡ size b) → (from count j place : ℕ) (x : A) → j < count
      → slice_get (f (from + j)) place ≡ Some x → slice_get (flat_map f (range_with_len from count)) (sum_by size (range_with_len from j) + place) ≡ Some x
  flat_get f size sized from zero j place x within is = absurd (omega arith)
  flat_get f size sized from (suc count) zero place x within is =
      let at : from + 0 ≡ from = omega arith in
      let e : 0 + place ≡ place = omega arith in
      rw e (get_front (f from) (flat_map f (range_with_len (from + 1) count)) place x (ap (λ (n : ℕ). slice_get (f n) place) (sym at) ∙ is))
  flat_get f size sized from (suc count) (suc j) place x within is =
      let at : from + suc j ≡ (from + 1) + j = omega arith in
      let rest = flat_get f size sized (from + 1) count j place x (omega arith) (ap (λ (n : ℕ). slice_get (f n) place) (sym at) ∙ is) in
      let sum = sum_by-cons size from (range_with_len (from + 1) j) in
      let first = sized from in
      let e : sum_by size (from ∷ range_with_len (from + 1) j) + place ≡ length (f from) + (sum_by size (range_with_len (from + 1) j) + place) = omega (arith, sum, first) in
      rw e (get_past (f from) (flat_map f (range_with_len (from + 1) count)) (sum_by size (range_with_len (from + 1) j) + place) ∙ rest)

  pub call_list : (b k : ℕ) (line : Line) → b < length func.blocks → slice_get (lines_at func b) k ≡ Some line → calls line ≡ true
      → slice_get (live_lists func table) (calls_before func b k) ≡ Some (live_list func table b k)
  call_list b k line below stands is =
      let at : 0 + k ≡ k = omega arith in
      let same : 0 + b ≡ b = omega arith in
      let here = list_in b 0 k line (lines_at func b) stands is ∙ ap (λ (n : ℕ). Some (live_list func table b n)) at in
      flat_get (λ (c : ℕ). lists_from func table c 0 (lines_at func c)) (calls_in func) (λ c. lists_count c 0 (lines_at func c)) 0 (length func.blocks) b
      (count_by calls (take k (lines_at func b))) (live_list func table b k) below
      (ap (λ (c : ℕ). slice_get (lists_from func table c 0 (lines_at func c)) (count_by calls (take k (lines_at func b)))) same ∙ here)
