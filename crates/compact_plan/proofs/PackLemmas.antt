-- How long the plan that compacts is, and what a filter keeps of the rest of a list.
use Rattle.std.proofs.Common.{◌≡◌, refl, ap, sym, ◌∙◌, ℕ, ◌+◌, Bool, true, false, List, [], ◌∷◌, ◌++◌, drop, length, cond, Some, arith, length-append}
use Rattle.std.specs.Prelude.{slice_get, filter}
use Rattle.std.specs.List.{count_by}
use Rattle.std.proofs.lemmas.List.{append_assoc}
use Rattle.std.proofs.lemmas.List.Sums.{sum_by-cons}
use Rattle.list_laws.proofs.Places.{drop_at}
use Rattle.move_plan.specs.declared.plan_lines.PlanLine.{PlanLine}
use Rattle.move_plan.specs.declared.plan_lines.PlanLine.TheVariants.{Move}
use Rattle.made_objects.specs.declared.makes.Made.{Made}
use Rattle.compact_plan.specs.Compacting.{compacted, front_lines, later_lines, move_count, packed, packing, stands_before}

pub filter_next : {X : Type 0} (p : X → Bool) (xs : List X) (k : ℕ) (x : X) → slice_get xs k ≡ Some x
    → filter p (drop k xs) ≡ cond (p x) (x ∷ filter p (drop (k + 1) xs)) (filter p (drop (k + 1) xs))
filter_next p xs k x at = rw (drop_at xs k x at) refl

-- an element that is kept goes from the rest to what is done
pub kept_on : {X : Type 0} (done now rest more all : List X) (x : X) (b : Bool) → more ≡ cond b (x ∷ rest) rest → true ≡ b → now ≡ done ++ x ∷ [] → done ++ more ≡ all
    → now ++ rest ≡ all
kept_on done now rest more all x b split is grown before =
    ap (λ l. l ++ rest) grown ∙ append_assoc done (x ∷ []) rest ∙ ap (λ l. done ++ l) (sym (split ∙ ap (λ c. cond c (x ∷ rest) rest) (sym is))) ∙ before

pub left_out : {X : Type 0} (done now rest more all : List X) (x : X) (b : Bool) → more ≡ cond b (x ∷ rest) rest → false ≡ b → now ≡ done → done ++ more ≡ all
    → now ++ rest ≡ all
left_out done now rest more all x b split isnt same before =
    ap (λ l. l ++ rest) same ∙ ap (λ l. done ++ l) (sym (split ∙ ap (λ c. cond c (x ∷ rest) rest) (sym isnt))) ∙ before

chosen : (b : Bool) (line : PlanLine) (kept left : List PlanLine) (count : ℕ) → length kept ≡ count → length left ≡ count
    → length (cond b (line ∷ kept) left) ≡ cond b 1 0 + count
chosen true line kept left count one other = omega (arith, one)
chosen false line kept left count one other = omega (arith, other)

packed_length : (event number to : ℕ) (made : List Made) → length (packed event number to made) ≡ count_by (stands_before event) made
packed_length event number to [] = refl
packed_length event number to (one ∷ rest) =
    chosen (stands_before event one) (Move event number to) (packed event (number + 1) (to + one.footprint) rest) (packed event (number + 1) to rest)
    (count_by (stands_before event) rest) (packed_length event (number + 1) (to + one.footprint) rest) (packed_length event (number + 1) to rest)
    ∙ sym (sum_by-cons (λ m. cond (stands_before event m) 1 0) one rest)

pub compacted_length : (plan : List PlanLine) (made : List Made) (event : ℕ)
    → length (compacted plan made event) ≡ length (front_lines plan event) + move_count made event + length (later_lines plan event)
compacted_length plan made event =
    let whole = length-append (front_lines plan event ++ packing made event) (later_lines plan event) in
    let front = length-append (front_lines plan event) (packing made event) in
    let moves : length (packing made event) ≡ move_count made event = packed_length event 1 1099511627776 made in
    omega (arith, whole, front, moves)
