-- The locations of a target module's records fit in their fields.
use Rattle.std.proofs.Common.{◌≡◌, ◌∙◌, ℕ, zero, suc, ◌+◌, ◌^◌, ◌<◌, ◌≤◌, Bool, true, false, cond, List, [], ◌∷◌, ◌++◌, length, take, Some, None, slice_get, nat_lt, refl, ap, sym, arith, append_assoc, lit<}
use Rattle.std.specs.List.{flat_map, position_or_len, AllByRecursion}
use Rattle.std.proofs.lemmas.Bool.{ltb-true}
use Rattle.std.proofs.lemmas.Int.{ints}
use Rattle.std.proofs.lemmas.Option.{slice_get_within}
use Rattle.list_laws.proofs.Places.{get_middle}
use Rattle.list_laws.proofs.Contents.{each_append}
use Rattle.ir_ast.specs.declared.ops.Op.{Op}
use Rattle.ir_ast.specs.declared.ops.Op.TheVariants.{GcRelocate}
use Rattle.ir_ast.specs.declared.types.Ty.{Ty}
use Rattle.ir_ast.specs.declared.types.Ty.TheVariants.{Int, Ptr}
use Rattle.ir_ast.specs.declared.ops.Operand.{Operand}
use Rattle.ir_ast.specs.declared.ops.Operand.TheVariants.{Value}
use Rattle.ir_ast.specs.Operands.{same_operand}
use Rattle.ir_ast.specs.Insts.{Instruction}
use Rattle.ir_ast.specs.Funcs.{Function, instructions_of}
use Rattle.ir_ast.specs.Faults.GroupShape.{GroupsInShape, RelocateInShape, ShapeOf, entries_of}
use Rattle.ir_cfg.specs.Statepoints.{StatepointsAreSmall}
use Rattle.object_meaning.specs.Frames.{index_in}
use Rattle.frame_forms.specs.FrameSizes.{is_named_integer}
use Rattle.frame_forms.specs.BundleWords.{deopt_word, deopt_words_from, words_taken}
use Rattle.map_bytes.specs.Fits.{PlaceFits}
use Rattle.stackmap_write.specs.Constants.{entry_number, large_number}
use Rattle.stackmap_write.specs.ModuleMaps.{deopt_place, deopt_places, places_by, slot_place, pair_places, member_places}
use Rattle.stackmap_write.proofs.AppendLemmas.{all_back, all_front}
use Rattle.stackmap_write.proofs.ConstantLaws.{Listed, number_fits}

slot_fits : (constants word : ℕ) → word < 16448 → PlaceFits constants (slot_place word)
slot_fits constants word few = record {
  kind_low = omega arith;
  kind_high = omega arith;
  size = lit< tt;
  register = lit< tt;
  offset = omega (arith, ints);
  index = λ e. cc;
}

-- a slot isn't one of the constants, so their number doesn't matter
pub slot_alone : (constants word : ℕ) → PlaceFits constants (slot_place word) → PlaceFits 0 (slot_place word)
slot_alone constants word fits = record {
  kind_low = fits.kind_low;
  kind_high = fits.kind_high;
  size = fits.size;
  register = fits.register;
  offset = fits.offset;
  index = λ e. cc;
}

pairs_alone : (constants : ℕ) (op : Op) (operands : List Operand) → AllByRecursion (PlaceFits constants) (pair_places op operands) → AllByRecursion (PlaceFits 0) (pair_places op operands)
pairs_alone constants GcRelocate operands fits =
    (slot_alone constants (index_in (slice_get operands 1)) fits.0, (slot_alone constants (index_in (slice_get operands 2)) fits.1.0, tt))
pairs_alone constants _ operands fits = tt

pub members_alone : (constants : ℕ) (group : List Instruction) → AllByRecursion (PlaceFits constants) (flat_map member_places group)
    → AllByRecursion (PlaceFits 0) (flat_map member_places group)
members_alone constants [] fits = tt
members_alone constants (inst ∷ group) fits =
    each_append (PlaceFits 0) (member_places inst) (flat_map member_places group)
    (pairs_alone constants inst.op inst.operands (all_front (PlaceFits constants) (member_places inst) (flat_map member_places group) fits))
    (members_alone constants group (all_back (PlaceFits constants) (member_places inst) (flat_map member_places group) fits))

relocate_fits : (constants : ℕ) (func : Function) → StatepointsAreSmall func → (place : ℕ) (inst : Instruction) → RelocateInShape func place inst
    → AllByRecursion (PlaceFits constants) (pair_places GcRelocate inst.operands)
relocate_fits constants func small place inst shape =
    let entries = entries_of shape.group.statepoint in
    let few : length entries ≤ 16384 = (small shape.group.head shape.group.statepoint shape.group.stands shape.group.op).0 in
    let base : index_in (slice_get inst.operands 1) ≡ shape.base = ap (λ (os : List Operand). index_in (slice_get os 1)) shape.operands in
    let derived : index_in (slice_get inst.operands 2) ≡ shape.derived = ap (λ (os : List Operand). index_in (slice_get os 2)) shape.operands in
    let within : shape.derived < length entries = slice_get_within entries shape.derived _ shape.derived_entry.1 in
    let base_within : shape.base < length entries = shape.base_entry in
    (slot_fits constants (index_in (slice_get inst.operands 1)) (omega arith), (slot_fits constants (index_in (slice_get inst.operands 2)) (omega arith), tt))

by_op : (constants : ℕ) (func : Function) → StatepointsAreSmall func → (place : ℕ) (inst : Instruction) (op : Op) → ShapeOf func place inst op
    → AllByRecursion (PlaceFits constants) (pair_places op inst.operands)
by_op constants func small place inst GcRelocate shape = relocate_fits constants func small place inst shape
by_op constants func small place inst _ shape = tt

abbrev pub FitsInMap : ℕ → Instruction → Type 0
FitsInMap constants inst = AllByRecursion (PlaceFits constants) (member_places inst)

-- the slots of each instruction of a function fit
pub members_fit : (constants : ℕ) (func : Function) → GroupsInShape func → StatepointsAreSmall func → (front rest : List Instruction)
    → instructions_of func.blocks ≡ front ++ rest → AllByRecursion (FitsInMap constants) rest
members_fit constants func shape small front [] whole = tt
members_fit constants func shape small front (inst ∷ rest) whole =
    let stands : slice_get (instructions_of func.blocks) (length front) ≡ Some inst = ap (λ (xs : List Instruction). slice_get xs (length front)) whole ∙ get_middle front inst rest in (
      by_op constants func small (length front) inst inst.op (shape (length front) inst stands),
      members_fit constants func shape small (front ++ inst ∷ []) rest (whole ∙ sym (append_assoc front (inst ∷ []) rest)),
    )

pub all_taken : {A : Type 0} (P : A → Type 0) (n : ℕ) (xs : List A) → AllByRecursion P xs → AllByRecursion P (take n xs)
all_taken P zero xs all = tt
all_taken P (suc n) [] all = tt
all_taken P (suc n) (x ∷ xs) all = (all.0, all_taken P n xs all.1)

pub places_fit : (constants : ℕ) (insts : List Instruction) → AllByRecursion (FitsInMap constants) insts → AllByRecursion (PlaceFits constants) (flat_map member_places insts)
places_fit constants [] all = tt
places_fit constants (inst ∷ insts) all =
    each_append (PlaceFits constants) (member_places inst) (flat_map member_places insts) all.0 (places_fit constants insts all.1)

-- ---- bundles

entry_fits : (constants : List ℕ) → length constants < 2 ^ 32 → (entries : List Operand) → length entries ≤ 16384 → (next : ℕ) → next < 16448
    → (ty : Ty) (operand : Operand) → AllByRecursion (Listed constants) (large_number (entry_number ty operand))
    → PlaceFits (length constants) (deopt_place constants ty operand (deopt_word entries next ty operand))
entry_fits constants few entries short next below (Int width) (Value value) listed = slot_fits (length constants) next below
entry_fits constants few entries short next below Ptr (Value value) listed =
    by (nat_lt (position_or_len (λ entry. same_operand entry (Value value)) entries) (length entries)) refl
  where
    by : (there : Bool) → nat_lt (position_or_len (λ entry. same_operand entry (Value value)) entries) (length entries) ≡ there
        → PlaceFits (length constants) (deopt_place constants Ptr (Value value) (cond there (Some (position_or_len (λ entry. same_operand entry (Value value)) entries)) None))
    by true is =
        let within = ltb-true (position_or_len (λ entry. same_operand entry (Value value)) entries) (length entries) is in
        slot_fits (length constants) (position_or_len (λ entry. same_operand entry (Value value)) entries) (omega (arith, within))
    by false is = number_fits constants few (entry_number Ptr (Value value)) listed
entry_fits constants few entries short next below ty operand listed = number_fits constants few (entry_number ty operand) listed

one_taken : (ty : Ty) (operand : Operand) → words_taken ty operand ≤ 1
one_taken ty operand = by (is_named_integer ty operand)
  where
    by : (named : Bool) → cond named 1 0 ≤ 1
    by true = omega arith
    by false = omega arith

bundle_fits : (constants : List ℕ) → length constants < 2 ^ 32 → (entries : List Operand) → length entries ≤ 16384 → (next : ℕ) (bundle : List (Ty × Operand))
    → next + length bundle ≤ 16448 → AllByRecursion (Listed constants) (flat_map (λ entry. large_number (entry_number entry.0 entry.1)) bundle)
    → AllByRecursion (PlaceFits (length constants)) (places_by constants bundle (deopt_words_from entries next bundle))
bundle_fits constants few entries short next [] room listed = tt
bundle_fits constants few entries short next (entry ∷ bundle) room listed =
    let front = large_number (entry_number entry.0 entry.1) in
    let back = flat_map (λ (entry : Ty × Operand). large_number (entry_number entry.0 entry.1)) bundle in
    let one = one_taken entry.0 entry.1 in (
      entry_fits constants few entries short next (omega arith) entry.0 entry.1 (all_front (Listed constants) front back listed),
      bundle_fits constants few entries short (next + words_taken entry.0 entry.1) bundle (omega (arith, one)) (all_back (Listed constants) front back listed),
    )

-- the "deopt" locations of a call with few entries, whose numbers are among the constants
pub deopts_fit : (constants : List ℕ) → length constants < 2 ^ 32 → (call : Instruction) → length (entries_of call) ≤ 16384 → length call.bundle ≤ 64
    → AllByRecursion (Listed constants) (flat_map (λ entry. large_number (entry_number entry.0 entry.1)) call.bundle)
    → AllByRecursion (PlaceFits (length constants)) (deopt_places constants call)
deopts_fit constants few call short bundle listed =
    bundle_fits constants few (entries_of call) short (length (entries_of call)) call.bundle (omega arith) listed

-- one location for each operand
count_by_words : (constants : List ℕ) (entries : List Operand) (next : ℕ) (bundle : List (Ty × Operand))
    → length (places_by constants bundle (deopt_words_from entries next bundle)) ≡ length bundle
count_by_words constants entries next [] = refl
count_by_words constants entries next (entry ∷ bundle) = ap suc (count_by_words constants entries (next + words_taken entry.0 entry.1) bundle)

pub deopts_count : (constants : List ℕ) (call : Instruction) → length (deopt_places constants call) ≡ length call.bundle
deopts_count constants call = count_by_words constants (entries_of call) (length (entries_of call)) call.bundle
