-- The locations that the map of a module has of a call's bundle show its entries.
use Rattle.std.proofs.Common.{◌≡◌, ℕ, ◌+◌, ◌<◌, ◌^◌, ◌==◌, ℤ, pos, ◌⊎◌, inl, inr, Bool, true, false, cond, ◌&&◌, List, [], ◌∷◌, ◌++◌, length, map, refl, sym, ap, ◌∙◌, subst, arith, append_assoc, length-append, Option, Some, None, if◌then◌else◌}
use Rattle.std.specs.Prelude.{fold, slice_get, slice_index, zip}
use Rattle.std.specs.Int.{w32}
use Rattle.std.specs.List.{AllZip, Contains, filter, flat_map, list_any, position, position_or_len}
use Rattle.std.specs.Option.{option_map_or, unwrap_or}
use Rattle.std.proofs.lemmas.Bool.{and_parts, eq-eqb, eqb-true, false≢true, lt-ltb, or_left, or_right}
use Rattle.std.proofs.lemmas.Int.{of_z-to_z}
use Rattle.std.proofs.lemmas.List.Elements.{filter-append}
use Rattle.std.proofs.lemmas.Option.{get_or_from_slice_get}
use Rattle.list_laws.proofs.Contents.{contains_cons, contains_first, contains_get, contains_later, contains_middle, contains_none, get_contained, joined_contains}
use Rattle.list_laws.proofs.Places.{get_middle}
use Rattle.list_laws.proofs.Tests.{any_append, any_contained, position_passes}
use Rattle.sp_ids.specs.declared.ids.ValueId.{ValueId}
use Rattle.ir_ast.specs.declared.ops.Op.{Op}
use Rattle.ir_ast.specs.declared.ops.Op.TheVariants.{Statepoint}
use Rattle.ir_ast.specs.declared.ops.Operand.{Operand}
use Rattle.ir_ast.specs.declared.ops.Operand.TheVariants.{Fun, Int as Literal, Null, Value}
use Rattle.ir_ast.specs.declared.types.Ty.{Ty}
use Rattle.ir_ast.specs.declared.types.Ty.TheVariants.{Int, Ptr, Token, Void}
use Rattle.ir_ast.specs.Faults.GroupShape.{entries_of, is_statepoint}
use Rattle.ir_ast.specs.Funcs.{Function, instructions_of}
use Rattle.ir_ast.specs.Insts.{Instruction}
use Rattle.ir_ast.specs.Modules.{ModuleContent}
use Rattle.ir_ast.specs.Operands.{same_operand}
use Rattle.frame_forms.specs.BundleWords.{deopt_word, deopt_words_from, words_taken}
use Rattle.frame_forms.specs.FrameSizes.{is_named_integer}
use Rattle.frame_walk.specs.Maps.{Pair, word_place}
use Rattle.object_meaning.specs.Lines.{Line}
use Rattle.pair_facts.specs.Lines.{is_relocate}
use Rattle.pair_facts.specs.Pairs.{base_index, derived_index}
use Rattle.pair_facts.specs.Uses.{is_kept}
use Rattle.stackmap_write.specs.Constants.{constant_of, constants_of, entry_number, is_small, large_by, large_in, large_number, large_of, with_constant}
use Rattle.stackmap_write.specs.ModuleMaps.{constant_at, constant_place, deopt_place, deopt_places, listed_place, number_place, slot_place}
use Rattle.moves_unseen.specs.Frames.{relocated_pair}
use Rattle.frames_shown.specs.Statements.{IsEntry}
use Rattle.frames_shown.specs.Shown.{ShowsEntry, ShowsNumber, ShowsWord, integer, listed, literal, null, own, pointer}

-- ---- numbers

first_within : {A : Type 0} (p : A → Bool) (xs : List A) → list_any p xs ≡ true → position_or_len p xs < length xs
first_within p [] some = absurd (false≢true some)
first_within p (x ∷ xs) some = by (p x) refl some (first_within p xs)
  where
    by : (b : Bool) → p x ≡ b → list_any p (x ∷ xs) ≡ true → (list_any p xs ≡ true → position_or_len p xs < length xs) → position_or_len p (x ∷ xs) < length (x ∷ xs)
    by true is any more = rw is (omega arith)
    by false is any more = rw is (let later = more (rw is at any) in omega arith)

-- a number that the list has stands at its place
placed : (constants : List ℕ) (number : ℕ) → list_any (λ one. number == one) constants ≡ true
    → (constant_at constants number < length constants) × (slice_index constants (constant_at constants number) ≡ number)
placed constants number some =
    let first = position_or_len (λ (one : ℕ). number == one) constants in
    let within : position_or_len (λ (one : ℕ). number == one) constants < length constants = first_within (λ (one : ℕ). number == one) constants some in
    let at : position (λ (one : ℕ). number == one) constants ≡ Some first =
    ap (λ (b : Bool). cond b (Some first) None) (lt-ltb first (length constants) within) in
    let here : constant_at constants number ≡ first = ap (λ (o : Option ℕ). unwrap_or o 0) at in
    let found = position_passes (λ (one : ℕ). number == one) constants first at in (
      subst (λ (n : ℕ). n < length constants) (sym here) within,
      ap (slice_index constants) here ∙ (get_or_from_slice_get constants first found.0 0 found.1 ∙ sym (eqb-true number found.0 found.2)),
    )

number_shows : (constants : List ℕ) (number : ℤ) → length constants < 2 ^ 32 → (is_small number ≡ false → list_any (λ one. constant_of number == one) constants ≡ true)
    → ShowsNumber constants number (number_place constants number)
number_shows constants number few has = by (is_small number) refl
  where
    by : (b : Bool) → is_small number ≡ b → ShowsNumber constants number (if b then constant_place number else listed_place (constant_at constants (constant_of number)))
    by true small = own refl refl
    by false large =
        let at = placed constants (constant_of number) (has large) in
        let within : constant_at constants (constant_of number) < 2 ^ 32 = omega (arith, at.0, few) in
        listed refl refl (ap (slice_index constants) (of_z-to_z w32 (constant_at constants (constant_of number)) within) ∙ at.1)

-- ---- the map's constants

with_kept : (constants : List ℕ) (added number : ℕ) → list_any (λ one. number == one) constants ≡ true → list_any (λ one. number == one) (with_constant constants added) ≡ true
with_kept constants added number there = by (list_any (λ (one : ℕ). added == one) constants)
  where
    by : (b : Bool) → list_any (λ (one : ℕ). number == one) (if b then constants else constants ++ added ∷ []) ≡ true
    by true = there
    by false =
        any_append (λ (one : ℕ). number == one) constants (added ∷ [])
        ∙ or_left (list_any (λ (one : ℕ). number == one) constants) (list_any (λ (one : ℕ). number == one) (added ∷ [])) there

with_added : (constants : List ℕ) (added : ℕ) → list_any (λ one. added == one) (with_constant constants added) ≡ true
with_added constants added = by (list_any (λ (one : ℕ). added == one) constants) refl
  where
    by : (b : Bool) → list_any (λ (one : ℕ). added == one) constants ≡ b → list_any (λ (one : ℕ). added == one) (if b then constants else constants ++ added ∷ []) ≡ true
    by true there = there
    by false other =
        any_append (λ (one : ℕ). added == one) constants (added ∷ [])
        ∙ or_right (list_any (λ (one : ℕ). added == one) constants) (list_any (λ (one : ℕ). added == one) (added ∷ [])) (or_left (added == added) false (eq-eqb added added refl))

-- each number of the list is among those that were gathered
gathered : (numbers constants : List ℕ) (number : ℕ) → (list_any (λ one. number == one) constants ≡ true) ⊎ Contains numbers number
    → list_any (λ one. number == one) (fold with_constant constants numbers) ≡ true
gathered [] constants number (inl there) = there
gathered [] constants number (inr contained) = absurd (contains_none number contained)
gathered (first ∷ numbers) constants number (inl there) = gathered numbers (with_constant constants first) number (inl (with_kept constants first number there))
gathered (first ∷ numbers) constants number (inr contained) = gathered numbers (with_constant constants first) number (elim (contains_cons first number numbers contained) [
  | inl same ↦ inl (subst (λ (n : ℕ). list_any (λ (one : ℕ). n == one) (with_constant constants first) ≡ true) same (with_added constants first))
  | inr later ↦ inr later
])

of_statepoint : (op : Op) (bundle : List (Ty × Operand)) (number : ℕ) → is_statepoint op ≡ true
    → Contains (flat_map (λ (entry : Ty × Operand). large_number (entry_number entry.0 entry.1)) bundle) number → Contains (large_by op bundle) number
of_statepoint (Statepoint id callee types) bundle number is contained = contained
of_statepoint _ bundle number is contained = absurd (cc)

large_itself : (number : ℤ) → is_small number ≡ false → Contains (large_number number) (constant_of number)
large_itself number large = subst (λ (b : Bool). Contains (if b then [] else constant_of number ∷ []) (constant_of number)) (sym large) (contains_first (constant_of number) [])

-- a large number in the bundle of a statepoint is a constant of the module's map
large_listed : (content : ModuleContent) (number : ℕ) (func : Function) → slice_get content.funcs number ≡ Some func → (place : ℕ) (call : Instruction)
    → slice_get (instructions_of func.blocks) place ≡ Some call → is_statepoint call.op ≡ true → (entry : Ty × Operand) → Contains call.bundle entry
    → is_small (entry_number entry.0 entry.1) ≡ false → list_any (λ one. constant_of (entry_number entry.0 entry.1) == one) (constants_of content) ≡ true
large_listed content number func defined place call stands is entry contained large =
    let one = constant_of (entry_number entry.0 entry.1) in
    gathered (flat_map large_of content.funcs) [] one
    (inr (joined_contains large_of content.funcs func one (contains_get content.funcs number func defined)
    (joined_contains large_in (instructions_of func.blocks) call one (contains_get (instructions_of func.blocks) place call stands)
    (of_statepoint call.op call.bundle one is
    (joined_contains (λ (each : Ty × Operand). large_number (entry_number each.0 each.1)) call.bundle entry one contained (large_itself (entry_number entry.0 entry.1) large))))))

-- ---- entries

same_value : (operand : Operand) (value : ValueId) → same_operand operand (Value value) ≡ true → operand ≡ Value value
same_value (Value other) value is = ap (λ (n : ℕ). Value (record { 0 = n })) (eqb-true other.0 value.0 is)
same_value (Literal number) value is = absurd (false≢true is)
same_value Null value is = absurd (false≢true is)
same_value (Fun func) value is = absurd (false≢true is)

word_shows : (word next : ℕ) → next ≡ word → ShowsWord word (slot_place next)
word_shows word next is = record { constant = refl; unlisted = refl; is = (let back : word_place (slot_place next) ≡ next = omega arith in back) ∙ is }

-- a relocate of the group keeps the word
record IsKept (group : List Line) (word : ℕ) : Type 0 where
  pub at : ℕ
  pub pair : Pair
  pub stands : slice_get (flat_map relocated_pair group) at ≡ Some pair
  pub derived : pair.derived ≡ word

kept_by : (group : List Line) (word : ℕ) → list_any (λ line. is_relocate line.inst.op && (derived_index line == word)) group ≡ true → IsKept group word
kept_by group word some =
    let found = any_contained (λ (line : Line). is_relocate line.inst.op && (derived_index line == word)) group some in
    let parts = and_parts (is_relocate found.0.inst.op) (derived_index found.0 == word) found.2 in
    let pair : Pair = record { base = base_index found.0; derived = derived_index found.0 } in
    let given : Contains (relocated_pair found.0) pair = subst (λ (b : Bool). Contains (if b then pair ∷ [] else []) pair) (sym parts.0) (contains_first pair []) in
    let at = get_contained (flat_map relocated_pair group) pair (joined_contains relocated_pair group found.0 pair found.1 given) in
    record { at = at.0; pair = pair; stands = at.1; derived = eqb-true (derived_index found.0) word parts.1 }

-- the constants have each large number of the bundle
abbrev HasNumber : List ℕ → Ty → Operand → Type 0
HasNumber constants ty operand = is_small (entry_number ty operand) ≡ false → list_any (λ one. constant_of (entry_number ty operand) == one) constants ≡ true

module _ (call : Instruction) (types : List Ty) (group : List Line) (constants : List ℕ) (few : length constants < 2 ^ 32)
    (large : (entry : Ty × Operand) → Contains call.bundle entry → HasNumber constants entry.0 entry.1) where
  abbrev entries : List Operand
  entries = entries_of call

  abbrev pairs : List Pair
  pairs = flat_map relocated_pair group

  abbrev named : Ty × Operand → Bool
  named entry = is_named_integer entry.0 entry.1

  abbrev Shows : Ty → Operand → Option ℕ → Type 0
  Shows ty operand word = ShowsEntry call (flat_map relocated_pair group) constants (deopt_place constants ty operand word) (ty, operand)

  pointer_shows : (value : ValueId) → is_kept (entries_of call) group (Value value) ≡ true → Shows Ptr (Value value) (position (λ entry. same_operand entry (Value value)) (entries_of call))
  pointer_shows value kept = by (position (λ (entry : Operand). same_operand entry (Value value)) entries) refl kept
    where
      by : (found : Option ℕ) → position (λ (entry : Operand). same_operand entry (Value value)) entries ≡ found
          → option_map_or (λ (place : ℕ). list_any (λ (line : Line). is_relocate line.inst.op && (derived_index line == place)) group) found false ≡ true → Shows Ptr (Value value) found
      by None is none = absurd (false≢true none)
      by (Some word) is some =
          let at = position_passes (λ (entry : Operand). same_operand entry (Value value)) entries word is in
          let pair = kept_by group word some in
          pointer value word (at.1 ∙ ap (λ (operand : Operand). Some operand) (same_value at.0 value at.2)) pair.at pair.pair pair.stands pair.derived (word_shows word word refl)

  integer_shows : (front rest : List (Ty × Operand)) (width : ℕ) (value : ValueId) → call.bundle ≡ front ++ (Int width, Value value) ∷ rest
      → (next : ℕ) → next ≡ length (entries_of call) + length (filter named front) → Shows (Int width) (Value value) (Some next)
  integer_shows front rest width value whole next is =
      integer width value (length (filter named front))
      (ap (λ (bundle : List (Ty × Operand)). slice_get (filter named bundle) (length (filter named front))) whole
      ∙ (ap (λ (all : List (Ty × Operand)). slice_get all (length (filter named front))) (filter-append named front ((Int width, Value value) ∷ rest))
      ∙ get_middle (filter named front) (Int width, Value value) (filter named rest)))
      (word_shows (length entries + length (filter named front)) next is)

  entry_shows : (front rest : List (Ty × Operand)) (ty : Ty) (operand : Operand) → call.bundle ≡ front ++ (ty, operand) ∷ rest → (next : ℕ)
      → next ≡ length (entries_of call) + length (filter named front) → IsEntry types (entries_of call) group ty operand → HasNumber constants ty operand
      → Shows ty operand (deopt_word (entries_of call) next ty operand)
  entry_shows front rest (Int width) (Value value) whole next is one has = integer_shows front rest width value whole next is
  entry_shows front rest (Int width) (Literal number) whole next is one has = literal width number (number_shows constants (entry_number (Int width) (Literal number)) few has)
  entry_shows front rest (Int width) Null whole next is one has = absurd (let clash : Int width ≡ Ptr = one.fits in cc)
  entry_shows front rest (Int width) (Fun func) whole next is one has = absurd (false≢true one.form)
  entry_shows front rest Ptr (Value value) whole next is one has = pointer_shows value (one.kept refl)
  entry_shows front rest Ptr (Literal number) whole next is one has = absurd (let clash : Ptr ≡ Int one.fits.0 = one.fits.1 in cc)
  entry_shows front rest Ptr Null whole next is one has = null (number_shows constants (pos 0) few has)
  entry_shows front rest Ptr (Fun func) whole next is one has = absurd (false≢true one.form)
  entry_shows front rest Void operand whole next is one has = absurd (false≢true one.form)
  entry_shows front rest Token operand whole next is one has = absurd (false≢true one.form)

  taken_one : (entry : Ty × Operand) → length (filter named (entry ∷ [])) ≡ words_taken entry.0 entry.1
  taken_one entry = by (is_named_integer entry.0 entry.1)
    where
      by : (b : Bool) → length (cond b (entry ∷ []) []) ≡ (if b then 1 else 0)
      by true = refl
      by false = refl

  all_show : (front rest : List (Ty × Operand)) → call.bundle ≡ front ++ rest → (next : ℕ) → next ≡ length (entries_of call) + length (filter named front)
      → ((entry : Ty × Operand) → Contains rest entry → IsEntry types (entries_of call) group entry.0 entry.1)
      → AllZip (λ each place. ShowsEntry call (flat_map relocated_pair group) constants place each) rest
      (map (λ (one : (Ty × Operand) × Option ℕ). deopt_place constants one.0.0 one.0.1 one.1) (zip rest (deopt_words_from (entries_of call) next rest)))
  all_show front [] whole next is good = tt
  all_show front (entry ∷ rest) whole next is good = (
    entry_shows front rest entry.0 entry.1 whole next is (good entry (contains_first entry rest)) (large entry (subst (λ (bundle : List (Ty × Operand)). Contains bundle entry) (sym whole) (contains_middle front entry rest))),
    (let long = ap length (filter-append named front (entry ∷ [])) ∙ length-append (filter named front) (filter named (entry ∷ [])) in
        let taken = taken_one entry in
        all_show (front ++ entry ∷ []) rest (whole ∙ sym (append_assoc front (entry ∷ []) rest)) (next + words_taken entry.0 entry.1) (omega (arith, long, taken, is))
        (λ other later. good other (contains_later entry other rest later))),
  )

-- so do the locations that the map of a module has of a call
pub bundle_located : (content : ModuleContent) → length (constants_of content) < 2 ^ 32 → (number : ℕ) (func : Function) → slice_get content.funcs number ≡ Some func
    → (place : ℕ) (call : Instruction) → slice_get (instructions_of func.blocks) place ≡ Some call → is_statepoint call.op ≡ true → (types : List Ty) (group : List Line)
    → ((entry : Ty × Operand) → Contains call.bundle entry → IsEntry types (entries_of call) group entry.0 entry.1)
    → AllZip (λ each place. ShowsEntry call (flat_map relocated_pair group) (constants_of content) place each) call.bundle (deopt_places (constants_of content) call)
bundle_located content few number func defined place call stands is types group good =
    all_show call types group (constants_of content) few (λ entry contained. large_listed content number func defined place call stands is entry contained)
    [] call.bundle refl (length (entries_of call)) (omega arith) good
