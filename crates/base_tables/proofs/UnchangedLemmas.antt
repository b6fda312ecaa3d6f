-- The tables where no line is inserted.
use Rattle.std.proofs.Common.{◌≡◌, ◌∙◌, ℕ, zero, suc, ◌+◌, ◌<◌, ◌≤◌, inl, inr, Bool, false, cond, List, [], ◌∷◌, length, get_or, take, Some, slice_get, slice_index_or, refl, ap, sym, subst, arith}
use Rattle.std.specs.Prelude.{map, replicate, fold}
use Rattle.std.specs.List.{range_with_len, All}
use Rattle.std.proofs.lemmas.Bool.{or_parts, cases_lt}
use Rattle.std.proofs.lemmas.List.{length-map, get_or-map}
use Rattle.std.proofs.lemmas.Option.{slice_get_within, get_or_from_slice_get}
use Rattle.std.proofs.lemmas.List.FromFn.{length-range_with_len, get_or-range_with_len}
use Rattle.std.proofs.lemmas.Simd.{map-map}
use Rattle.ir_ast.specs.declared.ops.Operand.{Operand}
use Rattle.ir_ast.specs.declared.ops.Operand.TheVariants.{Value, Int, Null, Fun}
use Rattle.ir_ast.specs.Funcs.{Function, instructions_of}
use Rattle.ir_ast.specs.Lines.{IsLine}
use Rattle.ir_ast.specs.Faults.UnknownName.{LocalNamesAreKnown}
use Rattle.ir_ast.specs.Values.{definitions_of}
use Rattle.base_tables.specs.Kinds.{Kind, kind_of, kind_merged, kind_negated, origin_in}
use Rattle.base_tables.specs.Flags.{kind_inserted}
use Rattle.base_tables.specs.Users.{AreMarks, given_kind}
use Rattle.base_tables.specs.Tables.{tables_of, unchanged, marks_before, inserted_in, number_in, own_base_in}
use Rattle.base_tables.proofs.TableLemmas.{map_range_same, IsKnown, origin_known, origin_same, tables_are}
use Rattle.ir_ast.specs.Operands.{named}

-- ---- marks of which none is set

none_counted : (start value n : ℕ) → fold (λ (k : ℕ) (b : Bool). k + cond b 1 0) start (take value (replicate n false)) ≡ start
none_counted start zero n = refl
none_counted start (suc value) zero = refl
none_counted start (suc value) (suc n) =
    let same : start + 0 ≡ start = omega arith in
    ap (λ k. fold (λ (m : ℕ) (b : Bool). m + cond b 1 0) k (take value (replicate n false))) same ∙ none_counted start value n

none_before : (n value : ℕ) → marks_before (replicate n false) value ≡ 0
none_before n value = none_counted 0 value n

size_of : {X : Type 0} (n : ℕ) (x : X) → length (replicate n x) ≡ n
size_of zero x = refl
size_of (suc n) x = ap suc (size_of n x)

none_at : (n value : ℕ) → slice_index_or (replicate n false) value false ≡ false
none_at zero value = refl
none_at (suc n) zero = refl
none_at (suc n) (suc value) = none_at n value

all_false : {X : Type 0} (f : X → Bool) (xs : List X) → ((i : ℕ) (x : X) → slice_get xs i ≡ Some x → f x ≡ false) → map f xs ≡ replicate (length xs) false
all_false f [] none = refl
all_false f (x ∷ xs) none =
    ap (λ (b : Bool). b ∷ map f xs) (none 0 x refl) ∙ ap (λ (bs : List Bool). false ∷ bs) (all_false f xs (λ i y at. none (suc i) y at))

pub none_more : {A B : Type 0} (f : B → Bool) (seen : A → B) (xs : List A) (i : ℕ) (d : A) → i < length xs
    → ((value : ℕ) (y : B) → value < i → slice_get (map seen xs) value ≡ Some y → f y ≡ false) → f (seen (get_or xs i d)) ≡ false
    → (value : ℕ) (y : B) → value < i + 1 → slice_get (map seen xs) value ≡ Some y → f y ≡ false
none_more f seen xs i d below before none value y within at = elim (cases_lt value i) [
  | inl earlier ↦ before value y earlier at
  | inr past ↦
      let e : value ≡ i = omega (arith, past, within) in
      let own : get_or (map seen xs) i (seen d) ≡ y = get_or_from_slice_get (map seen xs) i y (seen d) (subst (λ k. slice_get (map seen xs) k ≡ Some y) e at) in
      ap f (sym own ∙ get_or-map seen xs i d (seen d) below) ∙ none
]

pub none_all : {A B : Type 0} (f : B → Bool) (seen : A → B) (xs : List A) (i : ℕ) → length xs ≤ i
    → ((value : ℕ) (y : B) → value < i → slice_get (map seen xs) value ≡ Some y → f y ≡ false)
    → (value : ℕ) (y : B) → slice_get (map seen xs) value ≡ Some y → f y ≡ false
none_all f seen xs i past none value y at =
    let within = slice_get_within (map seen xs) value y at in
    let size = length-map xs seen in
    none value y (omega (arith, past, within, size)) at

-- ---- ranks and numbers

all_zero : (f : ℕ → ℕ) (values : List ℕ) → ((value : ℕ) → f value ≡ 0) → map f values ≡ replicate (length values) 0
all_zero f [] is = refl
all_zero f (value ∷ values) is = ap (λ (k : ℕ). k ∷ map f values) (is value) ∙ ap (λ (ks : List ℕ). 0 ∷ ks) (all_zero f values is)

all_same : (f : ℕ → ℕ) (values : List ℕ) → ((value : ℕ) → f value ≡ value) → map f values ≡ values
all_same f [] is = refl
all_same f (value ∷ values) is = ap (λ (k : ℕ). k ∷ map f values) (is value) ∙ ap (λ (ks : List ℕ). value ∷ ks) (all_same f values is)

no_ranks : (marks : List Bool) (n : ℕ) → marks ≡ replicate n false → replicate n 0 ≡ map (marks_before marks) (range_with_len 0 (length marks))
no_ranks marks n is =
    sym (ap (λ (fs : List Bool). map (marks_before fs) (range_with_len 0 (length fs))) is
    ∙ ap (λ k. map (marks_before (replicate n false)) (range_with_len 0 k)) (size_of n false)
    ∙ all_zero (marks_before (replicate n false)) (range_with_len 0 n) (none_before n)
    ∙ ap (λ k. replicate k 0) (length-range_with_len 0 n))

no_insertions : (marks : List Bool) (n : ℕ) → marks ≡ replicate n false → range_with_len 0 n ≡ map (inserted_in marks) (range_with_len 0 (length marks))
no_insertions marks n is =
    sym (ap (λ (fs : List Bool). map (inserted_in fs) (range_with_len 0 (length fs))) is
    ∙ ap (λ k. map (inserted_in (replicate n false)) (range_with_len 0 k)) (size_of n false)
    ∙ all_same (inserted_in (replicate n false)) (range_with_len 0 n) (λ value. let none = none_before n value in omega (arith, none)))

same_numbers : (marks : List Bool) (n : ℕ) → marks ≡ replicate n false → range_with_len 0 n ≡ map (number_in marks) (range_with_len 0 (length marks))
same_numbers marks n is =
    sym (ap (λ (fs : List Bool). map (number_in fs) (range_with_len 0 (length fs))) is
    ∙ ap (λ k. map (number_in (replicate n false)) (range_with_len 0 k)) (size_of n false)
    ∙ all_same (number_in (replicate n false)) (range_with_len 0 n) (λ value. let none = none_before n (suc value) in omega (arith, none)))

-- ---- bases

own_kept : (n : ℕ) (operand : Operand) → IsKnown n operand → own_base_in (replicate n false) (range_with_len 0 n) (range_with_len 0 n) operand ≡ operand
own_kept n (Value value) below =
    let plain : 0 + value.0 ≡ value.0 = omega arith in
    rw (none_at n value.0) (ap (λ (k : ℕ). named k) (get_or-range_with_len 0 n value.0 0 below ∙ plain))
own_kept n (Int word) below = refl
own_kept n Null below = refl
own_kept n (Fun other) below = refl

module _ (func : Function) (lines : All IsLine (instructions_of func.blocks)) (known : LocalNamesAreKnown func) where
  origin_within : (kinds : List Kind) → kinds ≡ map kind_of (definitions_of func) → (value : ℕ) → value < length (definitions_of func)
      → IsKnown (length (definitions_of func)) (origin_in kinds (named value))
  origin_within kinds same value below =
      subst (IsKnown (length (definitions_of func))) (sym (ap (λ (ks : List Kind). origin_in ks (named value)) same ∙ origin_same func (named value)))
      (origin_known func known (suc (length (definitions_of func))) (named value) below)

  bases_kept : (kinds : List Kind) → kinds ≡ map kind_of (definitions_of func) → (merged : List Bool) (origins : List Operand) (n : ℕ)
      → n ≡ length (definitions_of func) → merged ≡ replicate n false → origins ≡ map (λ value. origin_in kinds (named value)) (range_with_len 0 n)
      → origins ≡ map (own_base_in merged (range_with_len 0 n) (range_with_len 0 n)) origins
  bases_kept kinds same merged origins n size none is =
      let f : Operand → Operand = own_base_in (replicate n false) (range_with_len 0 n) (range_with_len 0 n) in
      let g : ℕ → Operand = λ value. origin_in kinds (named value) in
      sym (ap (λ (fs : List Bool). map (own_base_in fs (range_with_len 0 n) (range_with_len 0 n)) origins) none
      ∙ ap (map f) is ∙ map-map f g (range_with_len 0 n)
      ∙ map_range_same (λ value. f (g value)) g n (λ value below.
      own_kept n (g value) (subst (λ k. IsKnown k (g value)) (sym size) (origin_within kinds same value (subst (λ k. value < k) size below))))
      ∙ sym is)

  pub unchanged_are : (kinds : List Kind) → kinds ≡ map kind_of (definitions_of func) → (derived : List Bool) (origins : List Operand)
      → AreMarks kinds derived → origins ≡ map (λ value. origin_in kinds (named value)) (range_with_len 0 (length kinds))
      → ((value : ℕ) (kind : Kind) → slice_get kinds value ≡ Some kind → kind_inserted derived kind ≡ false)
      → unchanged derived origins ≡ tables_of func
  unchanged_are kinds same derived origins found origins_is none =
      let n = length derived in
      let whole : n ≡ length kinds = found.whole ∙ length-map kinds given_kind in
      let flags : (f : Kind → Bool) → ((value : ℕ) (kind : Kind) → slice_get kinds value ≡ Some kind → f kind ≡ false) → map f kinds ≡ replicate n false
      = λ f is. all_false f kinds is ∙ ap (λ k. replicate k false) (sym whole) in
      let merged = flags (kind_merged derived) (λ value kind at. (or_parts (kind_merged derived kind) (kind_negated derived kind) (none value kind at)).0) in
      let negated = flags (kind_negated derived) (λ value kind at. (or_parts (kind_merged derived kind) (kind_negated derived kind) (none value kind at)).1) in
      let either = flags (kind_inserted derived) none in
      let origins_so = origins_is ∙ ap (λ k. map (λ value. origin_in kinds (named value)) (range_with_len 0 k)) (sym whole) in
      tables_are func lines known kinds same derived (map (kind_merged derived) kinds) (map (kind_negated derived) kinds) (map (kind_inserted derived) kinds)
      (replicate n 0) (replicate n 0) (range_with_len 0 n) (range_with_len 0 n) origins origins n found whole origins_so refl refl refl
      (no_ranks (map (kind_merged derived) kinds) n merged) (no_ranks (map (kind_negated derived) kinds) n negated)
      (no_insertions (map (kind_inserted derived) kinds) n either) (same_numbers (map (kind_inserted derived) kinds) n either)
      (bases_kept kinds same (map (kind_merged derived) kinds) origins n (whole ∙ ap length same ∙ length-map (definitions_of func) kind_of) merged origins_so)
