-- The tables of a function.
use Rattle.std.proofs.Common.{◌≡◌, ◌∙◌, ℕ, zero, suc, ◌+◌, ◌<◌, ◌≤◌, Bool, true, false, ◌||◌, if◌then◌else◌, cond, List, [], ◌∷◌, ◌++◌, length, get_or, take, drop, Option, Some, None, slice_get, slice_index_or, refl, ap, sym, subst, arith, append-nil, append_assoc, inl, inr}
use Rattle.std.specs.Prelude.{map, nat_lt, fold}
use Rattle.std.specs.List.{list_any, filter_map, count_by, range_with_len, flat_map, All}
use Rattle.std.specs.Option.{option_map_or, option_and_then, option_map}
use Rattle.std.proofs.lemmas.Bool.{cases_Bool}
use Rattle.std.proofs.lemmas.List.{length-map, map-append, take-map, take_more, take_all, drop_all}
use Rattle.std.proofs.lemmas.Simd.{map-map}
use Rattle.std.proofs.lemmas.Grind.{flat_map-append}
use Rattle.std.proofs.lemmas.List.Elements.{filter_map-append}
use Rattle.std.proofs.lemmas.List.Folds.{list_any-append}
use Rattle.std.proofs.lemmas.List.FromFn.{map-range_with_len_more, get_or-map-range_with_len, length-map-range_with_len}
use Rattle.std.proofs.lemmas.List.Sums.{count_by_more_yes, count_by_more_no}
use Rattle.std.proofs.lemmas.Option.{none-some, slice_get-get_or, get_or_from_slice_get, slice_get-map}
use Rattle.std.proofs.lemmas.Bool.{lt-ltb, le-ltb}
use Rattle.list_laws.proofs.Places.{drop_item, get_some, get_front, filter_map_forth}
use Rattle.list_laws.proofs.Contents.{all_at}
use Rattle.ir_ast.specs.declared.ops.Operand.{Operand}
use Rattle.ir_ast.specs.declared.ops.Operand.TheVariants.{Value, Int, Null, Fun}
use Rattle.ir_ast.specs.declared.types.Ty.{Ty}
use Rattle.ir_ast.specs.Insts.{Instruction}
use Rattle.ir_ast.specs.Funcs.{Function, instructions_of}
use Rattle.ir_ast.specs.Lines.{IsLine}
use Rattle.ir_ast.specs.Derived.{is_step}
use Rattle.ir_ast.specs.Faults.UnknownName.{NamesOfFunction, LocalNamesAreKnown}
use Rattle.ir_ast.specs.Values.{Definition, argument, outcome, definitions_of}
use Rattle.ir_ast.specs.Operands.{value_in, operands_of, values_used, named}
use Rattle.base_forms.specs.DerivedMarks.{has_mark, derived_marks}
use Rattle.base_forms.specs.Inserted.{by_line, is_merged, is_negated, has_inserted, inserted_number, new_number}
use Rattle.base_forms.specs.Bases.{source_of, stepped_from, origin_by, origin, own_base, base_of, bases_for}
use Rattle.base_forms.proofs.OriginLaws.{origin_by-same}
use Rattle.base_forms.specs.Based.{base_table}
use Rattle.base_tables.specs.Kinds.{Kind, kind_of, any_marked, kind_merged, kind_negated, kind_source, stepped_in, origin_in}
use Rattle.base_tables.specs.Flags.{kind_inserted}
use Rattle.base_tables.specs.Users.{AreMarks}
use Rattle.base_tables.proofs.DefinitionLemmas.{OfLine, definitions_all, line_at, merged_kind, negated_kind, inserted_kind, same_flags, source_kind, marks_are}
use Rattle.base_tables.specs.Tables.{ValueTables, inserted_base, table_of, values_of, tables_of, marks_before, inserted_in, number_in, own_base_in}

-- ---- marked operands

any_front : (marks : List Bool) (operand : Operand) (rest : List Operand)
    → any_marked marks (operand ∷ rest) ≡ (any_marked marks (operand ∷ []) || any_marked marks rest)
any_front marks operand rest =
    ap (list_any (has_mark marks)) (filter_map-append value_in (operand ∷ []) rest)
    ∙ list_any-append (has_mark marks) (filter_map value_in (operand ∷ [])) (filter_map value_in rest)

any_at : (marks : List Bool) (operands : List Operand) (i : ℕ) (d : Operand) → i < length operands
    → any_marked marks (drop i operands) ≡ (any_marked marks (get_or operands i d ∷ []) || any_marked marks (drop (i + 1) operands))
any_at marks operands i d below =
    let x = get_or operands i d in
    let same : x ≡ get_or operands i x = sym (get_or_from_slice_get operands i x x (slice_get-get_or operands i d below)) in
    ap (any_marked marks) (drop_item operands i x below same) ∙ any_front marks x (drop (i + 1) operands)

pub any_here : (marks : List Bool) (operands : List Operand) (i : ℕ) (d : Operand) → i < length operands
    → any_marked marks (get_or operands i d ∷ []) ≡ true → any_marked marks (drop i operands) ≡ true
any_here marks operands i d below is = any_at marks operands i d below ∙ rw is refl

pub any_later : (marks : List Bool) (operands : List Operand) (i : ℕ) (d : Operand) → i < length operands
    → any_marked marks (get_or operands i d ∷ []) ≡ false → any_marked marks (drop i operands) ≡ any_marked marks (drop (i + 1) operands)
any_later marks operands i d below is = any_at marks operands i d below ∙ rw is refl

pub any_none : (marks : List Bool) (operands : List Operand) (i : ℕ) → length operands ≤ i → any_marked marks (drop i operands) ≡ false
any_none marks operands i past = ap (any_marked marks) (drop_all i operands past)

-- ---- counts

pub before_yes : (marks : List Bool) (i : ℕ) (d : Bool) → i < length marks → get_or marks i d ≡ true → marks_before marks (i + 1) ≡ marks_before marks i + 1
before_yes marks i d below is = count_by_more_yes (λ (mark : Bool). mark) marks i d below is

pub before_no : (marks : List Bool) (i : ℕ) (d : Bool) → i < length marks → get_or marks i d ≡ false → marks_before marks (i + 1) ≡ marks_before marks i
before_no marks i d below is = count_by_more_no (λ (mark : Bool). mark) marks i d below is

-- ---- flags

pub flag_more : {A : Type 0} (f : A → Bool) (xs : List A) (i : ℕ) (x : A) → i < length xs → (old new : List Bool) (flag : Bool)
    → old ≡ map f (take i xs) → new ≡ old ++ flag ∷ [] → flag ≡ f (get_or xs i x) → new ≡ map f (take (i + 1) xs)
flag_more f xs i x below old new flag before is flagged =
    is ∙ ap (λ (fs : List Bool). fs ++ flag ∷ []) before ∙ ap (λ (b : Bool). map f (take i xs) ++ b ∷ []) flagged
    ∙ sym (map-append f (take i xs) (get_or xs i x ∷ [])) ∙ ap (map f) (sym (take_more xs i x below))

pub flag_all : {A B : Type 0} (f : B → Bool) (seen : A → B) (xs : List A) (i : ℕ) (flags : List Bool) → length xs ≤ i
    → flags ≡ map (λ x. f (seen x)) (take i xs) → flags ≡ map f (map seen xs)
flag_all f seen xs i flags past is = is ∙ ap (map (λ x. f (seen x))) (take_all i xs past) ∙ sym (map-map f seen xs)

pub either_is : {e m n p q : Bool} → e ≡ (m || n) → m ≡ p → n ≡ q → e ≡ (p || q)
either_is is first second = rw (← first, ← second) is

-- ---- the table of bases

abbrev entries : List ℕ → List ℕ → List Operand → ℕ → List Operand
entries inserted numbers bases value = inserted_base inserted numbers value ++ slice_index_or bases value Null ∷ []

pub range_more : (n : ℕ) → range_with_len 0 (n + 1) ≡ range_with_len 0 n ++ n ∷ []
range_more n =
    sym (map_same (range_with_len 0 (n + 1))) ∙ map-range_with_len_more (λ (k : ℕ). k) 0 n n (omega arith) ∙ ap (λ (ks : List ℕ). ks ++ n ∷ []) (map_same (range_with_len 0 n))
  where
    map_same : (ks : List ℕ) → map (λ (k : ℕ). k) ks ≡ ks
    map_same [] = refl
    map_same (k ∷ ks) = ap (λ zs. k ∷ zs) (map_same ks)

pub table_more : (inserted numbers : List ℕ) (bases : List Operand) (i : ℕ) (d : Operand) (old mid new : List Operand) → i < length bases
    → old ≡ flat_map (entries inserted numbers bases) (range_with_len 0 i) → mid ≡ old ++ inserted_base inserted numbers i → new ≡ mid ++ get_or bases i d ∷ []
    → new ≡ flat_map (entries inserted numbers bases) (range_with_len 0 (i + 1))
table_more inserted numbers bases i d old mid new below before adds pushed =
    let own : get_or bases i d ≡ slice_index_or bases i Null = sym (get_or_from_slice_get bases i (get_or bases i d) Null (slice_get-get_or bases i d below)) in
    let all : ℕ → List Operand = entries inserted numbers bases in
    pushed ∙ ap (λ (xs : List Operand). xs ++ get_or bases i d ∷ []) adds
    ∙ append_assoc old (inserted_base inserted numbers i) (get_or bases i d ∷ [])
    ∙ ap (λ (x : Operand). old ++ (inserted_base inserted numbers i ++ x ∷ [])) own
    ∙ ap (λ (xs : List Operand). xs ++ all i) before
    ∙ ap (λ (xs : List Operand). flat_map all (range_with_len 0 i) ++ xs) (sym (append-nil (all i)))
    ∙ sym (flat_map-append all (range_with_len 0 i) (i ∷ [])) ∙ ap (flat_map all) (sym (range_more i))

-- ---- tables by the definitions

pub map_range_same : {X : Type 0} (f g : ℕ → X) (n : ℕ) → ((value : ℕ) → value < n → f value ≡ g value) → map f (range_with_len 0 n) ≡ map g (range_with_len 0 n)
map_range_same f g zero same = refl
map_range_same {X} f g (suc n) same =
    let e : suc n ≡ n + 1 = omega arith in
    ap (λ k. map f (range_with_len 0 k)) e ∙ map-range_with_len_more f 0 n n (omega arith)
    ∙ ap (λ (xs : List X). xs ++ f n ∷ []) (map_range_same f g n (λ value below. same value (omega (arith, below))))
    ∙ ap (λ (x : X). map g (range_with_len 0 n) ++ x ∷ []) (same n (omega arith))
    ∙ sym (map-range_with_len_more g 0 n n (omega arith)) ∙ ap (λ k. map g (range_with_len 0 k)) (sym e)

flat_range_same : (f g : ℕ → List Operand) (n : ℕ) → ((value : ℕ) → value < n → f value ≡ g value) → flat_map f (range_with_len 0 n) ≡ flat_map g (range_with_len 0 n)
flat_range_same f g zero same = refl
flat_range_same f g (suc n) same =
    let e : suc n ≡ n + 1 = omega arith in
    ap (λ k. flat_map f (range_with_len 0 k)) (e) ∙ ap (flat_map f) (range_more n) ∙ flat_map-append f (range_with_len 0 n) (n ∷ [])
    ∙ ap (λ (xs : List Operand). xs ++ flat_map f (n ∷ [])) (flat_range_same f g n (λ value below. same value (omega (arith, below))))
    ∙ ap (λ (xs : List Operand). flat_map g (range_with_len 0 n) ++ (xs ++ [])) (same n (omega arith))
    ∙ sym (flat_map-append g (range_with_len 0 n) (n ∷ [])) ∙ ap (flat_map g) (sym (range_more n)) ∙ ap (λ k. flat_map g (range_with_len 0 k)) (sym e)

fold_map : {X : Type 0} (f : X → Bool) (start : ℕ) (xs : List X)
    → fold (λ (n : ℕ) (b : Bool). n + cond b 1 0) start (map f xs) ≡ fold (λ (n : ℕ) (x : X). n + cond (f x) 1 0) start xs
fold_map f start [] = refl
fold_map f start (x ∷ xs) = fold_map f (start + cond (f x) 1 0) xs

count_map : {X : Type 0} (f : X → Bool) (xs : List X) → count_by (λ (mark : Bool). mark) (map f xs) ≡ count_by f xs
count_map f xs = fold_map f 0 xs

-- the count of marks is that of definitions
before_map : {X : Type 0} (f : X → Bool) (xs : List X) (value : ℕ) → marks_before (map f xs) value ≡ count_by f (take value xs)
before_map f xs value = ap (count_by (λ (mark : Bool). mark)) (take-map f value xs) ∙ count_map f (take value xs)

pub at_value : {X : Type 0} (f : ℕ → X) (n value : ℕ) (d : X) → value < n → get_or (map f (range_with_len 0 n)) value d ≡ f value
at_value f n value d below = get_or-map-range_with_len f 0 n value value d below (omega arith)

flag_at : {X : Type 0} (f : X → Bool) (xs : List X) (value : ℕ) → slice_index_or (map f xs) value false ≡ option_map_or f (slice_get xs value) false
flag_at f [] value = refl
flag_at f (x ∷ xs) zero = refl
flag_at f (x ∷ xs) (suc value) = flag_at f xs value

-- whether a line is inserted before a value is seen by its numbers
inserted_at : (func : Function) (marks : List Bool) (value : ℕ) → value < length (definitions_of func)
    → nat_lt (inserted_number func marks value) (new_number func marks value) ≡ option_map_or (has_inserted marks) (slice_get (definitions_of func) value) false
inserted_at func marks value below =
    let found = get_some (definitions_of func) value below in
    by found.0 found.1 (has_inserted marks found.0) refl
  where
    by : (given : Definition) → slice_get (definitions_of func) value ≡ Some given → (b : Bool) → has_inserted marks given ≡ b
        → nat_lt (inserted_number func marks value) (new_number func marks value) ≡ option_map_or (has_inserted marks) (slice_get (definitions_of func) value) false
    by given at true is =
        let own : get_or (definitions_of func) value given ≡ given = get_or_from_slice_get (definitions_of func) value given given at in
        let more = count_by_more_yes (has_inserted marks) (definitions_of func) value given below (ap (has_inserted marks) own ∙ is) in
        let e : value + 1 ≡ suc value = omega arith in
        let less : inserted_number func marks value < new_number func marks value = let m = ap (λ n. count_by (has_inserted marks) (take n (definitions_of func))) e in omega (arith, more, m) in
        rw (at, is) (lt-ltb (inserted_number func marks value) (new_number func marks value) less)
    by given at false is =
        let own : get_or (definitions_of func) value given ≡ given = get_or_from_slice_get (definitions_of func) value given given at in
        let more = count_by_more_no (has_inserted marks) (definitions_of func) value given below (ap (has_inserted marks) own ∙ is) in
        let e : value + 1 ≡ suc value = omega arith in
        let same : new_number func marks value ≤ inserted_number func marks value = let m = ap (λ n. count_by (has_inserted marks) (take n (definitions_of func))) e in omega (arith, more, m) in
        rw (at, is) (le-ltb (inserted_number func marks value) (new_number func marks value) same)

-- the table of the bases of the new function
pub table_is : (func : Function) → table_of (tables_of func) ≡ base_table func
table_is func =
    let n = length (definitions_of func) in
    let marks = derived_marks func in
    let bases = (tables_of func).bases in
    let size : length bases ≡ n = length-map-range_with_len (λ value. base_of func marks (named value)) 0 n in
    ap (λ k. flat_map (entries (tables_of func).inserted (tables_of func).numbers bases) (range_with_len 0 k)) size
    ∙ flat_range_same (entries (tables_of func).inserted (tables_of func).numbers bases) (bases_for func marks) n (λ value below.
    rw (at_value (inserted_number func marks) n value 0 below, at_value (new_number func marks) n value 0 below, inserted_at func marks value below)
    (ap (λ (o : Operand). (if option_map_or (has_inserted marks) (slice_get (definitions_of func) value) false then named (inserted_number func marks value) ∷ [] else []) ++ o ∷ [])
    (at_value (λ v. base_of func marks (named v)) n value Null below)))

-- ---- what is known

abbrev pub IsKnown : ℕ → Operand → Type 0
IsKnown count (Value value) = value.0 < count
IsKnown count operand = Unit {0}

used_known : (func : Function) (inst : Instruction) (operand : Operand) → NamesOfFunction func inst → slice_get inst.operands 0 ≡ Some operand
    → IsKnown (length (definitions_of func)) operand
used_known func inst (Value value) names at =
    let all = get_front inst.operands (map (λ (entry : Ty × Operand). entry.1) inst.bundle) 0 (Value value) at in
    let used = filter_map_forth value_in (operands_of inst) 0 (Value value) value.0 all refl in
    all_at (λ (v : ℕ). v < length (definitions_of func)) (values_used inst) used.0 value.0 names.values used.1
used_known func inst (Int word) names at = tt
used_known func inst Null names at = tt
used_known func inst (Fun other) names at = tt

step_known : (func : Function) → LocalNamesAreKnown func → (operand before : Operand) → stepped_from func operand ≡ Some before
    → IsKnown (length (definitions_of func)) before
step_known func known (Value value) before is = by (slice_get (definitions_of func) value.0) refl is
  where
    given_by : (given : Definition) → slice_get (definitions_of func) value.0 ≡ Some given → source_of given ≡ Some before → IsKnown (length (definitions_of func)) before
    given_by (argument arg) at is = absurd (none-some before is)
    given_by (outcome inst) at is = elim (cases_Bool (is_step inst.op)) [
      | inl step ↦ used_known func inst before (line_at (NamesOfFunction func) func known value.0 inst at) (rw step at is)
      | inr other ↦ absurd (none-some before (rw other at is))
    ]

    by : (o : Option Definition) → slice_get (definitions_of func) value.0 ≡ o → option_and_then source_of o ≡ Some before → IsKnown (length (definitions_of func)) before
    by None at is = absurd (none-some before is)
    by (Some given) at is = given_by given at is
step_known func known (Int word) before is = absurd (none-some before is)
step_known func known Null before is = absurd (none-some before is)
step_known func known (Fun other) before is = absurd (none-some before is)

pub origin_known : (func : Function) → LocalNamesAreKnown func → (bound : ℕ) (operand : Operand) → IsKnown (length (definitions_of func)) operand
    → IsKnown (length (definitions_of func)) (origin_by (stepped_from func) bound operand)
origin_known func known zero operand is = tt
origin_known func known (suc bound) operand is = by (stepped_from func operand) refl (origin_known func known bound)
  where
    by : (o : Option Operand) → stepped_from func operand ≡ o
        → ((before : Operand) → IsKnown (length (definitions_of func)) before → IsKnown (length (definitions_of func)) (origin_by (stepped_from func) bound before))
        → IsKnown (length (definitions_of func)) (option_map_or (origin_by (stepped_from func) bound) o operand)
    by None at earlier = is
    by (Some before) at earlier = earlier before (step_known func known operand before at)

stepped_same : (func : Function) (operand : Operand) → stepped_in (map kind_of (definitions_of func)) operand ≡ stepped_from func operand
stepped_same func (Value value) =
    ap (option_and_then kind_source) (slice_get-map kind_of (definitions_of func) value.0) ∙ by (slice_get (definitions_of func) value.0)
  where
    by : (o : Option Definition) → option_and_then kind_source (option_map kind_of o) ≡ option_and_then source_of o
    by None = refl
    by (Some given) = sym (source_kind given)
stepped_same func (Int word) = refl
stepped_same func Null = refl
stepped_same func (Fun other) = refl

pub origin_same : (func : Function) (operand : Operand) → origin_in (map kind_of (definitions_of func)) operand ≡ origin func operand
origin_same func operand =
    ap (λ k. origin_by (stepped_in (map kind_of (definitions_of func))) (suc k) operand) (length-map (definitions_of func) kind_of)
    ∙ origin_by-same (stepped_in (map kind_of (definitions_of func))) (stepped_from func) (stepped_same func) (suc (length (definitions_of func))) operand

own_base_same : (func : Function) (operand : Operand) → IsKnown (length (definitions_of func)) operand
    → own_base_in (map (by_line (is_merged (derived_marks func))) (definitions_of func)) (map (inserted_number func (derived_marks func)) (values_of func)) (map (new_number func (derived_marks func)) (values_of func)) operand
    ≡ own_base func (derived_marks func) operand
own_base_same func (Value value) below =
    let n = length (definitions_of func) in
    let marks = derived_marks func in
    rw (flag_at (by_line (is_merged marks)) (definitions_of func) value.0, at_value (inserted_number func marks) n value.0 0 below, at_value (new_number func marks) n value.0 0 below)
    refl
own_base_same func (Int word) below = refl
own_base_same func Null below = refl
own_base_same func (Fun other) below = refl

counted : (f : Definition → Bool) (given : List Definition) (g : ℕ → ℕ → ℕ)
    → ((value : ℕ) → g value (marks_before (map f given) value) ≡ g value (count_by f (take value given)))
    → map (λ value. g value (marks_before (map f given) value)) (range_with_len 0 (length (map f given)))
    ≡ map (λ value. g value (count_by f (take value given))) (range_with_len 0 (length given))
counted f given g same =
    ap (λ k. map (λ value. g value (marks_before (map f given) value)) (range_with_len 0 k)) (length-map given f)
    ∙ map_range_same (λ value. g value (marks_before (map f given) value)) (λ value. g value (count_by f (take value given))) (length given) (λ value below. same value)

module _ (func : Function) (lines : All IsLine (instructions_of func.blocks)) (known : LocalNamesAreKnown func) where
  flags_are : (f : Definition → Bool) (g : Kind → Bool) → ((given : Definition) → OfLine IsLine given → f given ≡ g (kind_of given))
      → map g (map kind_of (definitions_of func)) ≡ map f (definitions_of func)
  flags_are f g same = same_flags f g (OfLine IsLine) same (definitions_of func) (definitions_all IsLine func lines)

  bases_are : (origins : List Operand) → origins ≡ map (λ value. origin_in (map kind_of (definitions_of func)) (named value)) (values_of func)
      → map (own_base_in (map (by_line (is_merged (derived_marks func))) (definitions_of func)) (map (inserted_number func (derived_marks func)) (values_of func)) (map (new_number func (derived_marks func)) (values_of func))) origins
      ≡ (tables_of func).bases
  bases_are origins is =
      let f : Operand → Operand = own_base_in (map (by_line (is_merged (derived_marks func))) (definitions_of func)) (map (inserted_number func (derived_marks func)) (values_of func)) (map (new_number func (derived_marks func)) (values_of func)) in
      let n = length (definitions_of func) in
      ap (map f) is ∙ map-map f (λ value. origin_in (map kind_of (definitions_of func)) (named value)) (values_of func)
      ∙ map_range_same (λ value. f (origin_in (map kind_of (definitions_of func)) (named value))) (λ value. base_of func (derived_marks func) (named value)) n (λ value below.
      ap f (origin_same func (named value))
      ∙ own_base_same func (origin func (named value)) (origin_known func known (suc n) (named value) below))

  made_are : (derived merged negated either : List Bool) (base_ranks same_ranks inserted numbers : List ℕ) (origins bases : List Operand) (count : ℕ)
      → AreMarks (map kind_of (definitions_of func)) derived → count ≡ length (definitions_of func)
      → origins ≡ map (λ value. origin_in (map kind_of (definitions_of func)) (named value)) (range_with_len 0 count)
      → merged ≡ map (kind_merged derived) (map kind_of (definitions_of func)) → negated ≡ map (kind_negated derived) (map kind_of (definitions_of func))
      → either ≡ map (kind_inserted derived) (map kind_of (definitions_of func))
      → base_ranks ≡ map (marks_before merged) (range_with_len 0 (length merged)) → same_ranks ≡ map (marks_before negated) (range_with_len 0 (length negated))
      → inserted ≡ map (inserted_in either) (range_with_len 0 (length either)) → numbers ≡ map (number_in either) (range_with_len 0 (length either))
      → bases ≡ map (own_base_in merged inserted numbers) origins
      → (let made : ValueTables = record { derived = derived; base_ranks = base_ranks; same_ranks = same_ranks; inserted = inserted; numbers = numbers; bases = bases } in made) ≡ tables_of func
  made_are derived merged negated either base_ranks same_ranks inserted numbers origins bases count found size origins_is merged_is negated_is either_is base_is same_is inserted_is numbers_is bases_is =
      let marks = derived_marks func in
      let given = definitions_of func in
      let m = marks_are func lines derived found in
      let merges = merged_is ∙ ap (λ (ms : List Bool). map (kind_merged ms) (map kind_of given)) m ∙ flags_are (by_line (is_merged marks)) (kind_merged marks) (merged_kind marks) in
      let negates = negated_is ∙ ap (λ (ms : List Bool). map (kind_negated ms) (map kind_of given)) m ∙ flags_are (by_line (is_negated marks)) (kind_negated marks) (negated_kind marks) in
      let eithers = either_is ∙ ap (λ (ms : List Bool). map (kind_inserted ms) (map kind_of given)) m ∙ flags_are (has_inserted marks) (kind_inserted marks) (inserted_kind marks) in
      let bs = base_is ∙ ap (λ (fs : List Bool). map (marks_before fs) (range_with_len 0 (length fs))) merges
      ∙ counted (by_line (is_merged marks)) given (λ v n. n) (before_map (by_line (is_merged marks)) given) in
      let ss = same_is ∙ ap (λ (fs : List Bool). map (marks_before fs) (range_with_len 0 (length fs))) negates
      ∙ counted (by_line (is_negated marks)) given (λ v n. n) (before_map (by_line (is_negated marks)) given) in
      let is = inserted_is ∙ ap (λ (fs : List Bool). map (inserted_in fs) (range_with_len 0 (length fs))) eithers
      ∙ counted (has_inserted marks) given (λ v n. v + n) (λ v. ap (λ n. v + n) (before_map (has_inserted marks) given v)) in
      let ns = numbers_is ∙ ap (λ (fs : List Bool). map (number_in fs) (range_with_len 0 (length fs))) eithers ∙ numbers_count in
      let os = origins_is ∙ ap (λ k. map (λ value. origin_in (map kind_of given) (named value)) (range_with_len 0 k)) size in
      let all = bases_is ∙ ap (λ (fs : List Bool). map (own_base_in fs inserted numbers) origins) merges
      ∙ ap (λ (xs : List ℕ). map (own_base_in (map (by_line (is_merged marks)) given) xs numbers) origins) is
      ∙ ap (λ (xs : List ℕ). map (own_base_in (map (by_line (is_merged marks)) given) (map (inserted_number func marks) (values_of func)) xs) origins) ns
      ∙ bases_are origins os in
      rw (m, bs, ss, is, ns, all) refl
    where
      numbers_count : map (number_in (map (has_inserted (derived_marks func)) (definitions_of func))) (range_with_len 0 (length (map (has_inserted (derived_marks func)) (definitions_of func))))
          ≡ map (new_number func (derived_marks func)) (values_of func)
      numbers_count =
          let f : Definition → Bool = has_inserted (derived_marks func) in
          ap (λ k. map (number_in (map f (definitions_of func))) (range_with_len 0 k)) (length-map (definitions_of func) f)
          ∙ map_range_same (number_in (map f (definitions_of func))) (new_number func (derived_marks func)) (length (definitions_of func)) (λ value below. ap (λ n. value + n) (before_map f (definitions_of func) (suc value)))

  -- what the passes over the kinds of a function made
  pub tables_are : (kinds : List Kind) → kinds ≡ map kind_of (definitions_of func)
      → (derived merged negated either : List Bool) (base_ranks same_ranks inserted numbers : List ℕ) (origins bases : List Operand) (count : ℕ)
      → AreMarks kinds derived → count ≡ length kinds → origins ≡ map (λ value. origin_in kinds (named value)) (range_with_len 0 count)
      → merged ≡ map (kind_merged derived) kinds → negated ≡ map (kind_negated derived) kinds → either ≡ map (kind_inserted derived) kinds
      → base_ranks ≡ map (marks_before merged) (range_with_len 0 (length merged)) → same_ranks ≡ map (marks_before negated) (range_with_len 0 (length negated))
      → inserted ≡ map (inserted_in either) (range_with_len 0 (length either)) → numbers ≡ map (number_in either) (range_with_len 0 (length either))
      → bases ≡ map (own_base_in merged inserted numbers) origins
      → (let made : ValueTables = record { derived = derived; base_ranks = base_ranks; same_ranks = same_ranks; inserted = inserted; numbers = numbers; bases = bases } in made) ≡ tables_of func
  tables_are kinds same derived merged negated either base_ranks same_ranks inserted numbers origins bases count found size origins_is merged_is negated_is either_same base_is same_is inserted_is numbers_is bases_is =
      made_are derived merged negated either base_ranks same_ranks inserted numbers origins bases count (subst (λ (ks : List Kind). AreMarks ks derived) same found)
      (size ∙ ap length same ∙ length-map (definitions_of func) kind_of)
      (origins_is ∙ ap (λ (ks : List Kind). map (λ value. origin_in ks (named value)) (range_with_len 0 count)) same)
      (merged_is ∙ ap (map (kind_merged derived)) same) (negated_is ∙ ap (map (kind_negated derived)) same) (either_same ∙ ap (map (kind_inserted derived)) same)
      base_is same_is inserted_is numbers_is bases_is
