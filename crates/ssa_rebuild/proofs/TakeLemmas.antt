-- Entries of phis taken from their blocks' rows, one at a time.
use Rattle.std.proofs.Common.{◌≡◌, ◌∙◌, ℕ, zero, suc, ◌<◌, ◌≤◌, ◌+◌, ◌⊎◌, inl, inr, Bool, eqb, if◌then◌else◌, List, [], ◌∷◌, ◌++◌, length, map, take, drop, Some, None, slice_get, refl, ap, sym, arith, append_assoc, append-nil}
use Rattle.std.specs.Prelude.{slice_set, slice_index}
use Rattle.std.specs.List.{flat_map}
use Rattle.std.specs.Global.{Vec}
use Rattle.std.proofs.lemmas.Bool.{cases_eq, eq-eqb, ne_eqb}
use Rattle.std.proofs.lemmas.List.{map-append}
use Rattle.sp_ids.specs.declared.ids.BlockId.{BlockId}
use Rattle.sp_ids.specs.declared.ids.ValueId.{ValueId}
use Rattle.ir_ast.specs.declared.ops.Operand.{Operand}
use Rattle.ir_ast.specs.declared.ops.Operand.TheVariants.{Value}
use Rattle.ir_ast.specs.Blocks.{BasicBlock}
use Rattle.rewriting_laws.proofs.NameLemmas.{at_rest}
use Rattle.version_walk.specs.declared.slots.Slot.{Slot}
use Rattle.version_walk.specs.declared.slots.Slot.TheVariants.{Number}
use Rattle.ssa_rebuild.specs.declared.arrivals.Arrivals.{Arrivals}
use Rattle.version_walk.specs.Forest.{list_at}
use Rattle.ssa_rebuild.specs.Rows.{use_numbers}
use Rattle.ssa_rebuild.specs.Answers.{number_of}
use Rattle.ssa_rebuild.specs.Arrivals.{Behind, labeled_numbers, inserted_numbers, into_numbers, arriving_numbers, AreToCome, Pops, Takes, HoldsAll}
use Rattle.ssa_rebuild.proofs.RowLemmas.{flat_more}
use Rattle.ir_ast.specs.Operands.{valued}
use Rattle.statepoint_insert.specs.Groups.{numbers_in}

pub takes_none : (rows : List (Vec Slot)) (now : Arrivals) (entries : ℕ → List Operand) (numbers : Behind → List ℕ) → ((p : ℕ) → entries p ≡ [])
    → ((here : Behind) → numbers here ≡ []) → Takes rows now now entries numbers
takes_none rows now entries numbers none nothing = record {
  taken = λ here rest to. (
    sym (ap (λ (ns : List ℕ). now.numbers.items ++ ns) (nothing here) ∙ append-nil now.numbers.items),
    record { each = λ p within. to.each p within ∙ ap (λ (os : List Operand). map Number (use_numbers (here p) (os ++ rest p))) (none p) },
  );
}

pub takes_both : (rows : List (Vec Slot)) (old middle new : Arrivals) (one two both : ℕ → List Operand) (first second all : Behind → List ℕ)
    → Takes rows old middle one first → Takes rows middle new two second → ((p : ℕ) → both p ≡ one p ++ two p)
    → ((here : Behind) → all here ≡ first here ++ second here) → Takes rows old new both all
takes_both rows old middle new one two both first second all f s split parts = record {
  taken = λ here rest to.
      let apart : AreToCome here rows old.places.items (λ p. one p ++ (two p ++ rest p)) = record {
        each = λ p within. to.each p within
            ∙ ap (λ (os : List Operand). map Number (use_numbers (here p) os)) (ap (λ (os : List Operand). os ++ rest p) (split p) ∙ append_assoc (one p) (two p) (rest p));
      } in
      let front = f.taken here (λ p. two p ++ rest p) apart in
      let back = s.taken here rest front.1 in (
        back.0 ∙ ap (λ (ns : List ℕ). ns ++ second here) front.0 ∙ append_assoc old.numbers.items (first here) (second here)
            ∙ ap (λ (ns : List ℕ). old.numbers.items ++ ns) (sym (parts here)),
        back.1,
      );
}

pub takes_same : (rows : List (Vec Slot)) (old new : Arrivals) (one other : ℕ → List Operand) (numbers same : Behind → List ℕ)
    → ((p : ℕ) → one p ≡ other p) → ((here : Behind) → numbers here ≡ same here) → Takes rows old new one numbers → Takes rows old new other same
takes_same rows old new one other numbers same entries_same numbers_same takes = record {
  taken = λ here rest to.
      let before : AreToCome here rows old.places.items (λ p. one p ++ rest p) = record {
        each = λ p within. to.each p within ∙ ap (λ (os : List Operand). map Number (use_numbers (here p) (os ++ rest p))) (sym (entries_same p));
      } in
      let found = takes.taken here rest before in
      (found.0 ∙ ap (λ (ns : List ℕ). old.numbers.items ++ ns) (numbers_same here), found.1);
}

set_here : (xs : List ℕ) (k y : ℕ) → k < length xs → slice_index (slice_set xs k y) k ≡ y
set_here [] k y below = absurd (omega arith)
set_here (x ∷ xs) zero y below = refl
set_here (x ∷ xs) (suc k) y below = set_here xs k y (omega arith)

set_else : (xs : List ℕ) (j k y : ℕ) → (j ≡ k → ⊥) → slice_index (slice_set xs j y) k ≡ slice_index xs k
set_else [] j k y apart = refl
set_else (x ∷ xs) zero zero y apart = absurd (apart refl)
set_else (x ∷ xs) zero (suc k) y apart = refl
set_else (x ∷ xs) (suc j) zero y apart = refl
set_else (x ∷ xs) (suc j) (suc k) y apart = set_else xs j k y (λ e. apart (ap suc e))

pub takes_pop : (rows : List (Vec Slot)) (row : List Slot) (block v : ℕ) (old new : Arrivals) → row ≡ list_at rows block → block < length rows
    → block < length old.places.items → Pops row block old new
    → Takes rows old new (λ p. if eqb block p then Value (valued v) ∷ [] else []) (λ here. here block v ∷ [])
takes_pop rows row block v old new row_is within room pops = record {
  taken = λ here rest to.
      let place = slice_index old.places.items block in
      let start : drop place row ≡ Number (here block v) ∷ map Number (use_numbers (here block) (rest block)) =
      ap (drop place) row_is ∙ to.each block within
      ∙ ap (λ (t : Bool). map Number (use_numbers (here block) ((if t then Value (valued v) ∷ [] else []) ++ rest block))) (eq-eqb block block refl) in
      let found = at_rest row place (Number (here block v)) (map Number (use_numbers (here block) (rest block))) start in
      let same : Some pops.slot ≡ Some (Number (here block v)) = sym pops.stands ∙ found.0 in
      let is : number_of pops.slot ≡ here block v = some_number pops.slot (here block v) same in
      (pops.numbers ∙ ap (λ (n : ℕ). old.numbers.items ++ n ∷ []) is, record { each = λ p inside. later here rest to p inside found.1 (cases_eq block p) });
}
  where
    some_number : (slot : Slot) (n : ℕ) → Some slot ≡ Some (Number n) → number_of slot ≡ n
    some_number slot n e = let same : slot ≡ Number n = cc in ap number_of same

    later : (here : Behind) (rest : ℕ → List Operand) → AreToCome here rows old.places.items (λ p. (if eqb block p then Value (valued v) ∷ [] else []) ++ rest p)
        → (p : ℕ) → p < length rows → drop (suc (slice_index old.places.items block)) row ≡ map Number (use_numbers (here block) (rest block))
        → (block ≡ p) ⊎ (block ≡ p → ⊥) → drop (slice_index new.places.items p) (list_at rows p) ≡ map Number (use_numbers (here p) (rest p))
    later here rest to p inside behind (inl e) =
        let place = slice_index old.places.items block in
        let now : slice_index new.places.items block ≡ suc place =
        ap (λ (ns : List ℕ). slice_index ns block) pops.places ∙ set_here old.places.items block (place + 1) room ∙ (let s : place + 1 ≡ suc place = omega arith in s) in
        ap (λ (n : ℕ). drop (slice_index new.places.items n) (list_at rows n)) (sym e)
        ∙ ap (λ (n : ℕ). drop n (list_at rows block)) now ∙ ap (drop (suc place)) (sym row_is) ∙ behind
        ∙ ap (λ (n : ℕ). map Number (use_numbers (here n) (rest n))) e
    later here rest to p inside behind (inr ne) =
        let place = slice_index old.places.items block in
        ap (λ (ns : List ℕ). drop (slice_index ns p) (list_at rows p)) pops.places
        ∙ ap (λ (n : ℕ). drop n (list_at rows p)) (set_else old.places.items block p (place + 1) ne)
        ∙ to.each p inside
        ∙ ap (λ (t : Bool). map Number (use_numbers (here p) ((if t then Value (valued v) ∷ [] else []) ++ rest p))) (ne_eqb block p ne)

-- all entries
pub holds_all : (rows : List (Vec Slot)) (old new : Arrivals) (entries : ℕ → List Operand) (numbers : Behind → List ℕ) → old.numbers.items ≡ []
    → Takes rows old new entries numbers → HoldsAll rows old.places.items new.numbers.items entries numbers
holds_all rows old new entries numbers none takes here to =
    let whole : AreToCome here rows old.places.items (λ p. entries p ++ []) = record {
      each = λ p within. to.each p within ∙ ap (λ (os : List Operand). map Number (use_numbers (here p) os)) (sym (append-nil (entries p)));
    } in
    (takes.taken here (λ p. []) whole).0 ∙ ap (λ (ns : List ℕ). ns ++ numbers here) none

-- ---- one more

pub labeled_more : (here : Behind) (k : ℕ) (labels : List BlockId) (operands : List Operand) (label : BlockId) (operand : Operand)
    → slice_get labels k ≡ Some label → slice_get operands k ≡ Some operand
    → labeled_numbers here (take (k + 1) labels) (take (k + 1) operands) ≡ labeled_numbers here (take k labels) (take k operands) ++ use_numbers (here label.0) (operand ∷ [])
labeled_more here k [] operands label operand one two = absurd (let h : None ≡ Some label = one in cc)
labeled_more here k (l ∷ labels) [] label operand one two = absurd (let h : None ≡ Some operand = two in cc)
labeled_more here zero (l ∷ labels) (o ∷ operands) label operand one two =
    let same_label : l ≡ label = cc in
    let same : o ≡ operand = cc in
    append-nil (use_numbers (here l.0) (o ∷ [])) ∙ ap (λ (x : BlockId). use_numbers (here x.0) (o ∷ [])) same_label
    ∙ ap (λ (x : Operand). use_numbers (here label.0) (x ∷ [])) same
labeled_more here (suc k) (l ∷ labels) (o ∷ operands) label operand one two =
    let s : suc k + 1 ≡ suc (k + 1) = omega arith in
    ap (λ (n : ℕ). labeled_numbers here (take n (l ∷ labels)) (take n (o ∷ operands))) s
    ∙ ap (λ (ns : List ℕ). use_numbers (here l.0) (o ∷ []) ++ ns) (labeled_more here k labels operands label operand one two)
    ∙ sym (append_assoc (use_numbers (here l.0) (o ∷ [])) (labeled_numbers here (take k labels) (take k operands)) (use_numbers (here label.0) (operand ∷ [])))

pub labeled_short : (here : Behind) (n : ℕ) (labels : List BlockId) (operands : List Operand) → (length labels ≤ n) ⊎ (length operands ≤ n)
    → labeled_numbers here (take n labels) (take n operands) ≡ labeled_numbers here labels operands
labeled_short here zero [] operands which = refl
labeled_short here (suc n) [] operands which = refl
labeled_short here n (l ∷ labels) [] which = none n
  where
    none : (n : ℕ) → labeled_numbers here (take n (l ∷ labels)) (take n []) ≡ []
    none zero = refl
    none (suc n) = refl
labeled_short here zero (l ∷ labels) (o ∷ operands) (inl le) = absurd (omega arith)
labeled_short here zero (l ∷ labels) (o ∷ operands) (inr le) = absurd (omega arith)
labeled_short here (suc n) (l ∷ labels) (o ∷ operands) (inl le) = ap (λ (ns : List ℕ). use_numbers (here l.0) (o ∷ []) ++ ns) (labeled_short here n labels operands (inl (omega arith)))
labeled_short here (suc n) (l ∷ labels) (o ∷ operands) (inr le) = ap (λ (ns : List ℕ). use_numbers (here l.0) (o ∷ []) ++ ns) (labeled_short here n labels operands (inr (omega arith)))

pub inserted_numbers_more : (here : Behind) (preds : List BlockId) (k v : ℕ) (label : BlockId) → take (k + 1) preds ≡ take k preds ++ label ∷ []
    → inserted_numbers here (map (λ block. block.0) (take (k + 1) preds)) v ≡ inserted_numbers here (map (λ block. block.0) (take k preds)) v ++ here label.0 v ∷ []
inserted_numbers_more here preds k v label is =
    let f : BlockId → ℕ = λ block. block.0 in
    flat_more (λ (p : ℕ). let ns : List ℕ = here p v ∷ [] in ns) (map f (take k preds)) (map f (take (k + 1) preds)) label.0
    (ap (map f) is ∙ map-append f (take k preds) (label ∷ []))

pub joined_numbers_more : (here : Behind) (preds : List ℕ) (joined : List ValueId) (k : ℕ) (value : ValueId) → take (k + 1) joined ≡ take k joined ++ value ∷ []
    → flat_map (inserted_numbers here preds) (numbers_in (take (k + 1) joined)) ≡ flat_map (inserted_numbers here preds) (numbers_in (take k joined)) ++ inserted_numbers here preds value.0
joined_numbers_more here preds joined k value is =
    let f : ValueId → ℕ = λ value. value.0 in
    flat_more (inserted_numbers here preds) (map f (take k joined)) (map f (take (k + 1) joined)) value.0 (ap (map f) is ∙ map-append f (take k joined) (value ∷ []))

pub arriving_on : (here : Behind) (before : ℕ → List ℕ) (joins : List (List ℕ)) (to : ℕ) (blocks : List BasicBlock) (k : ℕ) (join : List ℕ) (block : BasicBlock)
    → slice_get joins k ≡ Some join → slice_get blocks k ≡ Some block
    → arriving_numbers here before (take (k + 1) joins) to (take (k + 1) blocks)
    ≡ arriving_numbers here before (take k joins) to (take k blocks) ++ into_numbers here (before (to + k)) join block.insts
arriving_on here before [] to blocks k join block one two = absurd (let h : None ≡ Some join = one in cc)
arriving_on here before (j ∷ joins) to [] k join block one two = absurd (let h : None ≡ Some block = two in cc)
arriving_on here before (j ∷ joins) to (b ∷ blocks) zero join block one two =
    let same_join : j ≡ join = cc in
    let same : b ≡ block = cc in
    let at : to ≡ to + 0 = omega arith in
    append-nil (into_numbers here (before to) j b.insts)
    ∙ ap (λ (vs : List ℕ). into_numbers here (before to) vs b.insts) same_join
    ∙ ap (λ (x : BasicBlock). into_numbers here (before to) join x.insts) same
    ∙ ap (λ (n : ℕ). into_numbers here (before n) join block.insts) at
arriving_on here before (j ∷ joins) to (b ∷ blocks) (suc k) join block one two =
    let s : suc k + 1 ≡ suc (k + 1) = omega arith in
    let at : suc to + k ≡ to + suc k = omega arith in
    let first = into_numbers here (before to) j b.insts in
    let last = into_numbers here (before (suc to + k)) join block.insts in
    ap (λ (n : ℕ). arriving_numbers here before (take n (j ∷ joins)) to (take n (b ∷ blocks))) s
    ∙ ap (λ (ns : List ℕ). first ++ ns) (arriving_on here before joins (suc to) blocks k join block one two)
    ∙ sym (append_assoc first (arriving_numbers here before (take k joins) (suc to) (take k blocks)) last)
    ∙ ap (λ (n : ℕ). (first ++ arriving_numbers here before (take k joins) (suc to) (take k blocks)) ++ into_numbers here (before n) join block.insts) at
