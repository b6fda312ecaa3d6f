-- The locations of a statepoint's record: they lie in the frame, and their pairs are those of the group.
use Rattle.std.proofs.Common.{◌≡◌, ◌∙◌, ℕ, zero, suc, ◌+◌, ◌*◌, ◌/◌, ◌%◌, ◌<◌, ◌≤◌, Bool, true, false, ◌==◌, List, [], ◌∷◌, ◌++◌, length, map, fold, max, Some, slice_get, refl, ap, sym, arith, append_assoc, length-append, eq-eqb, lt-ltb, le-leb}
use Rattle.std.specs.Prelude.{◌&&◌, IfSome, cond, Option, None, count_by, drop, int_le, nat_le, nat_lt, pos, take, unsigned_abs, zip, if◌then◌else◌}
use Rattle.std.specs.List.{AllByRecursion, flat_map, list_all, position}
use Rattle.std.proofs.lemmas.Bool.{and_from}
use Rattle.std.proofs.lemmas.List.Sums.{sum_by-cons}
use Rattle.std.proofs.Math.Seq.{drop-append_seam}
use Rattle.list_laws.proofs.Places.{get_middle, take_front_of}
use Rattle.list_laws.proofs.Tests.{position_passes}
use Rattle.std.proofs.lemmas.Option.{none-some, same_Some, slice_get_within}
use Rattle.ir_ast.specs.declared.ops.Op.{Op}
use Rattle.ir_ast.specs.declared.ops.Op.TheVariants.{Statepoint, GcRelocate}
use Rattle.ir_ast.specs.declared.ops.Operand.{Operand}
use Rattle.ir_ast.specs.declared.ops.Operand.TheVariants.{Fun, Int as Literal, Null, Value}
use Rattle.ir_ast.specs.declared.types.Ty.{Ty}
use Rattle.ir_ast.specs.declared.types.Ty.TheVariants.{Int, Ptr, Token, Void}
use Rattle.ir_ast.specs.Insts.{Instruction}
use Rattle.ir_ast.specs.Funcs.{Function, instructions_of}
use Rattle.ir_ast.specs.Faults.GroupShape.{GroupsInShape, ShapeOf, entries_of, is_statepoint, live_entries}
use Rattle.ir_ast.specs.Operands.{same_operand}
use Rattle.frame_forms.specs.BundleWords.{deopt_word, deopt_words_from, words_taken}
use Rattle.frame_forms.specs.FrameSizes.{frame_words, is_named_integer, words_at, words_of}
use Rattle.frame_walk.specs.Maps.{FrameEntry, Pair, deopt_places as deopts_of, is_deopt, is_slot, opens, pair_places as places_of_pairs, pairs_in, pairs_of, usable, word_place}
use Rattle.map_bytes.specs.declared.values.Place.{Place}
use Rattle.object_meaning.specs.Frames.{index_in}
use Rattle.pair_facts.specs.Lines.{is_relocate}
use Rattle.stackmap_write.specs.Constants.{constant_of, entry_number, is_small}
use Rattle.stackmap_write.specs.ModuleMaps.{constant_at, constant_place, deopt_place, deopt_places, group_places, listed_place, member_places, pair_places, slot_place}
use Rattle.runs_unseen.proofs.records_found.LineLaws.{pair_of}

-- ---- pairs

word_back : (word : ℕ) → word_place (slot_place word) ≡ word
word_back word = omega arith

abbrev pair_by : Bool → List Operand → List Pair
pair_by relocate operands = if relocate then record { base = index_in (slice_get operands 1); derived = index_in (slice_get operands 2) } ∷ [] else []

pairs_by : (op : Op) (operands : List Operand) (rest : List Place) → pairs_in (pair_places op operands ++ rest) ≡ pair_by (is_relocate op) operands ++ pairs_in rest
pairs_by GcRelocate operands rest =
    ap (λ word. record { base = word; derived = word_place (slot_place (index_in (slice_get operands 2))) } ∷ pairs_in rest) (word_back (index_in (slice_get operands 1)))
    ∙ ap (λ word. record { base = index_in (slice_get operands 1); derived = word } ∷ pairs_in rest) (word_back (index_in (slice_get operands 2)))
pairs_by _ operands rest = refl

pub pairs_are : (group : List Instruction) → pairs_in (flat_map member_places group) ≡ flat_map pair_of group
pairs_are [] = refl
pairs_are (inst ∷ group) =
    pairs_by inst.op inst.operands (flat_map member_places group) ∙ ap (λ rest. pair_by (is_relocate inst.op) inst.operands ++ rest) (pairs_are group)

-- ---- two locations for each relocate

even_by : (op : Op) (operands : List Operand) → length (pair_places op operands) % 2 ≡ 0
even_by GcRelocate operands = refl
even_by _ operands = refl

even : (group : List Instruction) → length (flat_map member_places group) % 2 ≡ 0
even [] = refl
even (inst ∷ group) =
    let one = even_by inst.op inst.operands in
    let more = even group in
    let long = length-append (member_places inst) (flat_map member_places group) in omega arith

-- ---- slots in the frame

words_below : (start : ℕ) (insts : List Instruction) → start ≤ fold max start (map words_at insts)
words_below start [] = omega arith
words_below start (inst ∷ insts) = let more = words_below (max start (words_at inst)) insts in omega arith

-- a frame has room for what each instruction asks
pub asked : (start : ℕ) (insts : List Instruction) (place : ℕ) (inst : Instruction) → slice_get insts place ≡ Some inst → words_at inst ≤ fold max start (map words_at insts)
asked start [] place inst stands = absurd (none-some inst stands)
asked start (first ∷ insts) zero inst stands =
    let same : words_at first ≡ words_at inst = ap words_at (same_Some first inst stands) in
    let more = words_below (max start (words_at first)) insts in omega arith
asked start (first ∷ insts) (suc place) inst stands = asked (max start (words_at first)) insts place inst stands

entries_fit : (op : Op) (operands : List Operand) (bundle : _) → length (live_entries op operands) ≤ words_of op operands bundle
entries_fit (Statepoint id callee types) operands bundle = omega arith
entries_fit _ operands bundle = omega arith

-- a relocate's slots are in the frame
abbrev pub IsInFrame : ℕ → Instruction → Type 0
IsInFrame words inst = is_relocate inst.op ≡ true → (index_in (slice_get inst.operands 1) < words) × (index_in (slice_get inst.operands 2) < words)

in_frame_by : (func : Function) (place : ℕ) (inst : Instruction) (op : Op) → ShapeOf func place inst op → is_relocate op ≡ true
    → (index_in (slice_get inst.operands 1) < frame_words func) × (index_in (slice_get inst.operands 2) < frame_words func)
in_frame_by func place inst GcRelocate shape is =
    let call = shape.group.statepoint in
    let room : words_at call ≤ frame_words func = asked 0 (instructions_of func.blocks) shape.group.head call shape.group.stands in
    let few : length (entries_of call) ≤ words_at call = entries_fit call.op call.operands call.bundle in
    let base : index_in (slice_get inst.operands 1) ≡ shape.base = ap (λ (os : List Operand). index_in (slice_get os 1)) shape.operands in
    let derived : index_in (slice_get inst.operands 2) ≡ shape.derived = ap (λ (os : List Operand). index_in (slice_get os 2)) shape.operands in
    let within : shape.derived < length (entries_of call) = slice_get_within (entries_of call) shape.derived _ shape.derived_entry.1 in
    let base_within : shape.base < length (entries_of call) = shape.base_entry in
    ((omega arith), (omega arith))
in_frame_by func place inst _ shape is = absurd (cc)

pub all_in_frame : (func : Function) → GroupsInShape func → (front rest : List Instruction) → instructions_of func.blocks ≡ front ++ rest
    → AllByRecursion (IsInFrame (frame_words func)) rest
all_in_frame func shape front [] whole = tt
all_in_frame func shape front (inst ∷ rest) whole =
    let stands : slice_get (instructions_of func.blocks) (length front) ≡ Some inst = ap (λ (xs : List Instruction). slice_get xs (length front)) whole ∙ get_middle front inst rest in (
      in_frame_by func (length front) inst inst.op (shape (length front) inst stands),
      all_in_frame func shape (front ++ inst ∷ []) rest (whole ∙ sym (append_assoc front (inst ∷ []) rest)),
    )

slot_is : (words word : ℕ) → word < words → is_slot (8 * words) (slot_place word) ≡ true
slot_is words word within =
    ap (λ b. b && ((unsigned_abs (pos (8 * word)) % 8 == 0) && nat_lt (unsigned_abs (pos (8 * word))) (8 * words))) (le-leb 0 (8 * word) (omega arith))
    ∙ (ap (λ b. b && nat_lt (8 * word) (8 * words)) (eq-eqb (8 * word % 8) 0 (omega arith)) ∙ lt-ltb (8 * word) (8 * words) (omega arith))

slots_by : (words : ℕ) (op : Op) (operands : List Operand) (rest : List Place)
    → (is_relocate op ≡ true → (index_in (slice_get operands 1) < words) × (index_in (slice_get operands 2) < words))
    → list_all (is_slot (8 * words)) rest ≡ true → list_all (is_slot (8 * words)) (pair_places op operands ++ rest) ≡ true
slots_by words GcRelocate operands rest within more =
    let both = within refl in
    ap (λ b. b && (is_slot (8 * words) (slot_place (index_in (slice_get operands 2))) && list_all (is_slot (8 * words)) rest)) (slot_is words (index_in (slice_get operands 1)) both.0)
    ∙ (ap (λ b. b && list_all (is_slot (8 * words)) rest) (slot_is words (index_in (slice_get operands 2)) both.1) ∙ more)
slots_by words _ operands rest within more = more

slots_are : (words : ℕ) (group : List Instruction) → AllByRecursion (IsInFrame words) group → list_all (is_slot (8 * words)) (flat_map member_places group) ≡ true
slots_are words [] all = refl
slots_are words (inst ∷ group) all = slots_by words inst.op inst.operands (flat_map member_places group) all.0 (slots_are words group all.1)

-- ---- "deopt" locations in the frame

-- a place of the frame, or a constant
deopt_fits : (words : ℕ) (constants : List ℕ) (ty : Ty) (operand : Operand) (word : Option ℕ) → IfSome word (λ one. one < words)
    → is_deopt (8 * words) (deopt_place constants ty operand word) ≡ true
deopt_fits words constants ty operand (Some word) within = slot_is words word within
deopt_fits words constants ty operand None within = by (is_small (entry_number ty operand))
  where
    by : (b : Bool) → is_deopt (8 * words) (if b then constant_place (entry_number ty operand) else listed_place (constant_at constants (constant_of (entry_number ty operand)))) ≡ true
    by true = refl
    by false = refl

word_fits : (entries : List Operand) (next words : ℕ) (ty : Ty) (operand : Operand) → length entries ≤ next → next + words_taken ty operand ≤ words
    → IfSome (deopt_word entries next ty operand) (λ one. one < words)
word_fits entries next words (Int width) (Value value) low room = omega arith
word_fits entries next words (Int width) (Literal number) low room = tt
word_fits entries next words (Int width) Null low room = tt
word_fits entries next words (Int width) (Fun func) low room = tt
word_fits entries next words Ptr (Value value) low room = by (position (λ (entry : Operand). same_operand entry (Value value)) entries) refl
  where
    by : (found : Option ℕ) → position (λ (entry : Operand). same_operand entry (Value value)) entries ≡ found → IfSome found (λ one. one < words)
    by None is = tt
    by (Some word) is =
        let at = position_passes (λ (entry : Operand). same_operand entry (Value value)) entries word is in
        let within : word < length entries = slice_get_within entries word at.0 at.1 in omega arith
word_fits entries next words Ptr (Literal number) low room = tt
word_fits entries next words Ptr Null low room = tt
word_fits entries next words Ptr (Fun func) low room = tt
word_fits entries next words Void operand low room = tt
word_fits entries next words Token operand low room = tt

taken_more : (bundle : List (Ty × Operand)) (entry : Ty × Operand)
    → count_by (λ one. is_named_integer one.0 one.1) (entry ∷ bundle) ≡ words_taken entry.0 entry.1 + count_by (λ one. is_named_integer one.0 one.1) bundle
taken_more bundle entry = sum_by-cons (λ (one : Ty × Operand). cond (is_named_integer one.0 one.1) 1 0) entry bundle

deopts_fit : (words : ℕ) (constants : List ℕ) (entries : List Operand) (next : ℕ) (bundle : List (Ty × Operand)) → length entries ≤ next
    → next + count_by (λ one. is_named_integer one.0 one.1) bundle ≤ words
    → list_all (is_deopt (8 * words)) (map (λ (one : (Ty × Operand) × Option ℕ). deopt_place constants one.0.0 one.0.1 one.1) (zip bundle (deopt_words_from entries next bundle))) ≡ true
deopts_fit words constants entries next [] low room = refl
deopts_fit words constants entries next (entry ∷ bundle) low room =
    let count = taken_more bundle entry in
    and_from (is_deopt (8 * words) (deopt_place constants entry.0 entry.1 (deopt_word entries next entry.0 entry.1))) _
    (deopt_fits words constants entry.0 entry.1 (deopt_word entries next entry.0 entry.1) (word_fits entries next words entry.0 entry.1 low (omega (arith, count, room))))
    (deopts_fit words constants entries (next + words_taken entry.0 entry.1) bundle (omega arith) (omega (arith, count, room)))

-- those of a statepoint are in a frame that has its words
pub all_deopts_fit : (words : ℕ) (constants : List ℕ) (call : Instruction) → is_statepoint call.op ≡ true → words_at call ≤ words
    → list_all (is_deopt (8 * words)) (deopt_places constants call) ≡ true
all_deopts_fit words constants call is room =
    deopts_fit words constants (entries_of call) (length (entries_of call)) call.bundle (omega arith) (by call.op is room)
  where
    by : (op : Op) → is_statepoint op ≡ true → words_of op call.operands call.bundle ≤ words
        → length (live_entries op call.operands) + count_by (λ one. is_named_integer one.0 one.1) call.bundle ≤ words
    by (Statepoint id callee types) statepoint fits = fits
    by _ statepoint fits = absurd (cc)

-- ---- the record is usable

abbrev pub entry_with : ℕ → List Place → List Instruction → FrameEntry
entry_with words deopts group = record { frame_bytes = 8 * words; places = group_places deopts group }

-- the locations behind the three constants
pub deopts_are : (words : ℕ) (deopts : List Place) (group : List Instruction) → deopts_of (entry_with words deopts group) ≡ deopts
deopts_are words deopts group = take_front_of deopts (flat_map member_places group)

pub pairs_behind : (words : ℕ) (deopts : List Place) (group : List Instruction) → pairs_of (entry_with words deopts group) ≡ flat_map pair_of group
pairs_behind words deopts group = ap pairs_in (drop-append_seam deopts (flat_map member_places group)) ∙ pairs_are group

pub is_usable : (words : ℕ) (deopts : List Place) (group : List Instruction) → list_all (is_deopt (8 * words)) deopts ≡ true → AllByRecursion (IsInFrame words) group
    → (left : ℕ) → words < left → usable left (entry_with words deopts group) ≡ true
is_usable words deopts group fitting all left fits =
    let places = flat_map member_places group in
    let parity = even group in
    let long = length-append deopts places in
    let whole : 8 * words % 8 ≡ 0 = omega arith in
    let count : 8 * words / 8 < left = omega arith in
    let members : places_of_pairs (entry_with words deopts group) ≡ places = drop-append_seam deopts places in
    and_from ((8 * words % 8 == 0) && nat_lt (8 * words / 8) left) _ (and_from (8 * words % 8 == 0) (nat_lt (8 * words / 8) left) (eq-eqb (8 * words % 8) 0 whole) (lt-ltb (8 * words / 8) left count))
    (and_from (opens (group_places deopts group)) _ (and_from (int_le (pos 0) (pos (length deopts))) (nat_le (length deopts) (length (deopts ++ places))) (le-leb 0 (length deopts) (omega arith)) (le-leb (length deopts) (length (deopts ++ places)) (omega arith)))
    (and_from (list_all (is_deopt (8 * words)) (deopts_of (entry_with words deopts group))) _ (ap (list_all (is_deopt (8 * words))) (deopts_are words deopts group) ∙ fitting)
    (and_from (length (places_of_pairs (entry_with words deopts group)) % 2 == 0) _
    (ap (λ (all_places : List Place). length all_places % 2 == 0) members ∙ eq-eqb (length places % 2) 0 parity)
    (ap (list_all (is_slot (8 * words))) members ∙ slots_are words group all))))
