-- Runs of entries, row by row.
use Rattle.std.proofs.Common.{◌≡◌, ◌∙◌, ℕ, zero, suc, ◌<◌, ◌≤◌, ◌+◌, Bool, true, false, if◌then◌else◌, List, [], ◌∷◌, ◌++◌, length, map, take, drop, Option, Some, slice_get, refl, ap, sym, arith, append_assoc}
use Rattle.std.specs.List.{filter, flat_map, range_with_len}
use Rattle.std.specs.Global.{Vec}
use Rattle.std.specs.Option.{option_map_or}
use Rattle.std.proofs.lemmas.List.Elements.{filter-append}
use Rattle.sp_ids.specs.declared.ids.BlockId.{BlockId}
use Rattle.ir_ast.specs.declared.ops.Operand.{Operand}
use Rattle.ir_ast.specs.declared.ops.Operand.TheVariants.{Value, Int, Null, Fun}
use Rattle.ir_ast.specs.Insts.{Instruction}
use Rattle.ir_ast.specs.Faults.PhiEdges.{is_phi}
use Rattle.phi_webs.specs.Webs.{Phi}
use Rattle.list_laws.proofs.Places.{get_map, map_back, map_append}
use Rattle.list_laws.proofs.Ranges.{range_get}
use Rattle.version_walk.specs.declared.slots.Slot.TheVariants.{Number}
use Rattle.version_walk.specs.Forest.{list_at}
use Rattle.ssa_rebuild.specs.Answers.{number_of}
use Rattle.ssa_rebuild.specs.Rows.{use_numbers}
use Rattle.ssa_rebuild.specs.Arrivals.{Behind, labeled_numbers, phi_numbers}
use Rattle.thin_phis.specs.Thinned.{stays, number_now}
use Rattle.thin_phis.specs.Runs.{phis_over, behind_phis, entry_count, entries_over, behind_entries, left_at, phi_left}
use Rattle.ssa_rebuild.proofs.ArrivalLaws.{drop_front}
use Rattle.ssa_rebuild.proofs.WrittenLaws.{take_front}
use Rattle.std.proofs.lemmas.Grind.{flat_map-append}

-- ---- lists

pub whole : {A : Type 0} (xs : List A) → xs ++ [] ≡ xs
whole [] = refl
whole {A} (x ∷ xs) = ap (λ (ys : List A). x ∷ ys) (whole xs)

pub take_of_map : {A B : Type 0} (f : A → B) (n : ℕ) (xs : List A) → map f (take n xs) ≡ take n (map f xs)
take_of_map f zero [] = refl
take_of_map f zero (x ∷ xs) = refl
take_of_map f (suc n) [] = refl
take_of_map {A} {B} f (suc n) (x ∷ xs) = ap (λ (ys : List B). f x ∷ ys) (take_of_map f n xs)

pub drop_of_map : {A B : Type 0} (f : A → B) (n : ℕ) (xs : List A) → map f (drop n xs) ≡ drop n (map f xs)
drop_of_map f zero [] = refl
drop_of_map f zero (x ∷ xs) = refl
drop_of_map f (suc n) [] = refl
drop_of_map f (suc n) (x ∷ xs) = drop_of_map f n xs

pub dropped_all : {A : Type 0} (n : ℕ) (xs : List A) → length xs ≤ n → drop n xs ≡ []
dropped_all zero [] le = refl
dropped_all zero (x ∷ xs) le = absurd (omega arith)
dropped_all (suc n) [] le = refl
dropped_all (suc n) (x ∷ xs) le = dropped_all n xs (omega arith)

pub none_left : {A : Type 0} (p : ℕ → Bool) (values : List A) → left_at p values [] ≡ []
none_left p [] = refl
none_left p (v ∷ values) = refl

-- a list of lists, each of which is known
pub listed_at : {A B : Type 0} (g : List A → B) (lists : List (Vec A)) (f : ℕ → B) (count b : ℕ) → map (λ list. g list.items) lists ≡ map f (range_with_len 0 count)
    → b < count → g (list_at lists b) ≡ f b
listed_at {A} {B} g lists f count b is below =
    let z : 0 + b ≡ b = omega arith in
    let there : slice_get (map (λ (list : Vec A). g list.items) lists) b ≡ Some (f b) =
    ap (λ (ys : List B). slice_get ys b) is ∙ get_map f (range_with_len 0 count) b b (range_get 0 count b below ∙ ap Some z) in
    let back = map_back (λ (list : Vec A). g list.items) lists b (f b) there in
    ap (λ (o : Option (Vec A)). g (option_map_or (λ (list : Vec A). list.items) o [])) back.stands ∙ sym back.is

-- ---- phis and lines, one more

pub phis_push : (width : ℕ) (xs : List ℕ) (x : ℕ) (e : List ℕ)
    → phis_over width (xs ++ x ∷ []) e ≡ phis_over width xs e ++ record { name = x; operands = take width (behind_phis width xs e) } ∷ []
phis_push width [] x e = refl
phis_push width (y ∷ xs) x e = ap (λ (ps : List (Phi ℕ)). record { name = y; operands = take width e } ∷ ps) (phis_push width xs x (drop width e))

pub behind_push : (width : ℕ) (xs : List ℕ) (x : ℕ) (e : List ℕ) → behind_phis width (xs ++ x ∷ []) e ≡ drop width (behind_phis width xs e)
behind_push width [] x e = refl
behind_push width (y ∷ xs) x e = behind_push width xs x (drop width e)

pub entries_push : (insts : List Instruction) (inst : Instruction) (e : List ℕ)
    → entries_over (insts ++ inst ∷ []) e ≡ entries_over insts e ++ take (entry_count inst) (behind_entries insts e)
entries_push [] inst e = whole (take (entry_count inst) e)
entries_push (other ∷ insts) inst e =
    ap (λ (ns : List ℕ). take (entry_count other) e ++ ns) (entries_push insts inst (drop (entry_count other) e))
    ∙ sym (append_assoc (take (entry_count other) e) (entries_over insts (drop (entry_count other) e)) (take (entry_count inst) (behind_entries insts (drop (entry_count other) e))))

pub behind_entries_push : (insts : List Instruction) (inst : Instruction) (e : List ℕ)
    → behind_entries (insts ++ inst ∷ []) e ≡ drop (entry_count inst) (behind_entries insts e)
behind_entries_push [] inst e = refl
behind_entries_push (other ∷ insts) inst e = behind_entries_push insts inst (drop (entry_count other) e)

-- what is left of phis, one more
pub kept_push : (ends : List ℕ) (width : ℕ) (xs : List ℕ) (x : ℕ) (e : List ℕ)
    → flat_map (phi_left ends) (phis_over width (xs ++ x ∷ []) e)
    ≡ flat_map (phi_left ends) (phis_over width xs e) ++ phi_left ends (record { name = x; operands = take width (behind_phis width xs e) })
kept_push ends width xs x e =
    let last : Phi ℕ = record { name = x; operands = take width (behind_phis width xs e) } in
    ap (flat_map (phi_left ends)) (phis_push width xs x e) ∙ flat_map-append (phi_left ends) (phis_over width xs e) (last ∷ [])
    ∙ ap (λ (ns : List ℕ). flat_map (phi_left ends) (phis_over width xs e) ++ ns) (whole (phi_left ends last))

pub left_push : (ends xs : List ℕ) (x : ℕ)
    → map (number_now ends) (filter (stays ends) (xs ++ x ∷ [])) ≡ map (number_now ends) (filter (stays ends) xs) ++ (if stays ends x then number_now ends x ∷ [] else [])
left_push ends xs x =
    ap (map (number_now ends)) (filter-append (stays ends) xs (x ∷ [])) ∙ map_append (number_now ends) (filter (stays ends) xs) (filter (stays ends) (x ∷ []))
    ∙ ap (λ (ys : List ℕ). map (number_now ends) (filter (stays ends) xs) ++ ys) (by (stays ends x))
  where
    by : (t : Bool) → map (number_now ends) (if t then x ∷ [] else []) ≡ (if t then number_now ends x ∷ [] else [])
    by true = refl
    by false = refl

-- ---- entries that are taken

uses_long : (f g : ℕ → ℕ) (o : Operand) (operands : List Operand) (xs : List ℕ) → length xs ≡ length (use_numbers g operands)
    → length (use_numbers f (o ∷ []) ++ xs) ≡ length (use_numbers g (o ∷ operands))
uses_long f g (Value value) operands xs same = ap suc same
uses_long f g (Int word) operands xs same = same
uses_long f g Null operands xs same = same
uses_long f g (Fun func) operands xs same = same

pub uses_more : (g : ℕ → ℕ) (o : Operand) (operands : List Operand) → length (use_numbers g (o ∷ operands)) ≡ length (use_numbers g (o ∷ [])) + length (use_numbers g operands)
uses_more g (Value value) operands = omega arith
uses_more g (Int word) operands = omega arith
uses_more g Null operands = omega arith
uses_more g (Fun func) operands = omega arith

labeled_long : (here : Behind) (labels : List BlockId) (operands : List Operand)
    → length (labeled_numbers here labels operands) ≡ length (use_numbers (λ v. 0) (take (length labels) operands))
labeled_long here [] [] = refl
labeled_long here [] (o ∷ operands) = refl
labeled_long here (label ∷ labels) [] = refl
labeled_long here (label ∷ labels) (o ∷ operands) =
    uses_long (here label.0) (λ v. 0) o (take (length labels) operands) (labeled_numbers here labels operands) (labeled_long here labels operands)

pub count_is : (here : Behind) (inst : Instruction) → entry_count inst ≡ length (phi_numbers here inst)
count_is here inst = by (is_phi inst.op)
  where
    by : (t : Bool) → (if t then length (use_numbers (λ v. 0) (take (length inst.labels) inst.operands)) else 0)
        ≡ length (if t then labeled_numbers here inst.labels inst.operands else [])
    by true = sym (labeled_long here inst.labels inst.operands)
    by false = refl

-- the entries of lines that stand first are taken, and the rest is left
pub lines_taken : (here : Behind) (insts : List Instruction) (rest : List ℕ) → entries_over insts (flat_map (phi_numbers here) insts ++ rest) ≡ flat_map (phi_numbers here) insts
lines_taken here [] rest = refl
lines_taken here (inst ∷ insts) rest =
    let more = flat_map (phi_numbers here) insts in
    let whole = append_assoc (phi_numbers here inst) more rest in
    let long = count_is here inst in
    ap (λ (ns : List ℕ). take (entry_count inst) ns ++ entries_over insts (drop (entry_count inst) ns)) whole
    ∙ ap (λ (ns : List ℕ). ns ++ entries_over insts (drop (entry_count inst) (phi_numbers here inst ++ (more ++ rest)))) (take_front (entry_count inst) (phi_numbers here inst) (more ++ rest) long)
    ∙ ap (λ (ns : List ℕ). phi_numbers here inst ++ entries_over insts ns) (drop_front (entry_count inst) (phi_numbers here inst) (more ++ rest) long)
    ∙ ap (λ (ns : List ℕ). phi_numbers here inst ++ ns) (lines_taken here insts rest)

pub lines_left : (here : Behind) (insts : List Instruction) (rest : List ℕ) → behind_entries insts (flat_map (phi_numbers here) insts ++ rest) ≡ rest
lines_left here [] rest = refl
lines_left here (inst ∷ insts) rest =
    let more = flat_map (phi_numbers here) insts in
    ap (λ (ns : List ℕ). behind_entries insts (drop (entry_count inst) ns)) (append_assoc (phi_numbers here inst) more rest)
    ∙ ap (behind_entries insts) (drop_front (entry_count inst) (phi_numbers here inst) (more ++ rest) (count_is here inst))
    ∙ lines_left here insts rest

-- phis whose entries stand first
module _ {A : Type 0} (width : ℕ) (name : A → ℕ) (taken : A → List ℕ) (long : (v : A) → width ≡ length (taken v)) where
  abbrev made : ℕ → List ℕ → Phi ℕ
  made x operands = record { name = x; operands = operands }

  pub phis_taken : (vs : List A) (rest : List ℕ) → phis_over width (map name vs) (flat_map taken vs ++ rest) ≡ map (λ v. made (name v) (taken v)) vs
  phis_taken [] rest = refl
  phis_taken (v ∷ vs) rest =
      let more = flat_map taken vs ++ rest in
      ap (λ (ns : List ℕ). made (name v) (take width ns) ∷ phis_over width (map name vs) (drop width ns)) (append_assoc (taken v) (flat_map taken vs) rest)
      ∙ ap (λ (ns : List ℕ). made (name v) ns ∷ phis_over width (map name vs) (drop width (taken v ++ more))) (take_front width (taken v) more (long v))
      ∙ ap (λ (ns : List ℕ). made (name v) (taken v) ∷ phis_over width (map name vs) ns) (drop_front width (taken v) more (long v))
      ∙ ap (λ (ps : List (Phi ℕ)). made (name v) (taken v) ∷ ps) (phis_taken vs rest)

  pub phis_left : (vs : List A) (rest : List ℕ) → behind_phis width (map name vs) (flat_map taken vs ++ rest) ≡ rest
  phis_left [] rest = refl
  phis_left (v ∷ vs) rest =
      ap (λ (ns : List ℕ). behind_phis width (map name vs) (drop width ns)) (append_assoc (taken v) (flat_map taken vs) rest)
      ∙ ap (behind_phis width (map name vs)) (drop_front width (taken v) (flat_map taken vs ++ rest) (long v))
      ∙ phis_left vs rest
