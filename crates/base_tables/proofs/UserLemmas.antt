-- Marks that are spread in order, by kinds of values.
use Rattle.std.proofs.Common.{◌≡◌, ◌∙◌, ℕ, zero, suc, ◌<◌, ◌+◌, Bool, true, false, not, ◌||◌, List, [], ◌∷◌, length, get_or, Some, slice_get, refl, ap, sym, subst, inl, inr, ◌⊎◌}
use Rattle.std.specs.Prelude.{map}
use Rattle.std.specs.List.{Contains, filter_map, list_any}
use Rattle.std.proofs.lemmas.List.{length-map}
use Rattle.std.proofs.lemmas.Bool.{cases_Bool, false≢true}
use Rattle.std.proofs.lemmas.Option.{same_Some, slice_get-get_or, get_or_from_slice_get}
use Rattle.list_laws.proofs.Places.{cases_below, get_map, map_back}
use Rattle.list_laws.proofs.Contents.{contains_none, contains_first, contains_later, contains_cons}
use Rattle.graph_search.specs.Paths.{Marked}
use Rattle.ir_ast.specs.declared.ops.Operand.{Operand}
use Rattle.ir_ast.specs.Operands.{value_in}
use Rattle.base_forms.specs.DerivedMarks.{has_mark}
use Rattle.base_tables.specs.Kinds.{Kind, plain, steps, merges, differs, any_marked, kind_merged}
use Rattle.base_tables.specs.Users.{DerivedIn, AreMarks, given_kind, kind_steps, closed_at}
use Rattle.derived_values.specs.Givens.{other, step, merge}
use Rattle.derived_values.specs.Deriveds.{at_step, at_use}

-- ---- marks that are spread in order

step_derived : (kinds : List Kind) (value : ℕ) (kind : Kind) → slice_get kinds value ≡ Some kind → kind_steps kind ≡ true → DerivedIn kinds value
step_derived kinds value (steps before) stands is = at_step value (get_map given_kind kinds value (steps before) stands)
step_derived kinds value kind stands is = absurd (false≢true is)

pub steps_sound : (kinds : List Kind) (value : ℕ) → Marked (map kind_steps kinds) value → DerivedIn kinds value
steps_sound kinds value marked =
    let m = map_back kind_steps kinds value true marked in
    step_derived kinds value m.before m.stands (sym m.is)

mark_there : (marks : List Bool) (value : ℕ) → has_mark marks value ≡ true → Marked marks value
mark_there [] value is = absurd (false≢true is)
mark_there (mark ∷ marks) zero is = ap (λ (m : Bool). Some m) is
mark_there (mark ∷ marks) (suc value) is = mark_there marks value is

marked_use : (marks : List Bool) (values : List ℕ) → list_any (has_mark marks) values ≡ true → (value : ℕ) × (Contains values value) × Marked marks value
marked_use marks [] any = absurd (false≢true any)
marked_use marks (value ∷ values) any = elim (cases_Bool (has_mark marks value)) [
  | inl here ↦ (value, contains_first value values, mark_there marks value here)
  | inr none ↦
      let rest = marked_use marks values (rw none at any) in
      (rest.0, contains_later value rest.0 values rest.1, rest.2)
]

-- a phi or select that uses a marked value
merge_derived : (kinds : List Kind) (marks : List Bool) (value : ℕ) (operands : List Operand) → slice_get kinds value ≡ Some (merges operands)
    → any_marked marks operands ≡ true → ((v : ℕ) → Marked marks v → DerivedIn kinds v) → DerivedIn kinds value
merge_derived kinds marks value operands stands any sound =
    let used = marked_use marks (filter_map value_in operands) any in
    at_use used.0 value (record { values = filter_map value_in operands; stands = get_map given_kind kinds value (merges operands) stands; used = used.1 }) (sound used.0 used.2)

merged_derived : (kinds : List Kind) (marks : List Bool) (value : ℕ) (kind : Kind) → slice_get kinds value ≡ Some kind
    → kind_merged marks kind ≡ true → ((v : ℕ) → Marked marks v → DerivedIn kinds v) → DerivedIn kinds value
merged_derived kinds marks value (merges operands) stands any sound = merge_derived kinds marks value operands stands any sound
merged_derived kinds marks value kind stands any sound = absurd (false≢true any)

-- one value more
sound_more : (kinds : List Kind) (marks new : List Bool) (value : ℕ) (kind : Kind) → slice_get kinds value ≡ Some kind
    → ((v : ℕ) → Marked marks v → DerivedIn kinds v)
    → ((v : ℕ) → Marked new v → Marked marks v ⊎ ((v ≡ value) × (kind_merged marks kind ≡ true)))
    → (v : ℕ) → Marked new v → DerivedIn kinds v
sound_more kinds marks new value kind stands sound each v marked = elim (each v marked) [
  | inl old ↦ sound v old
  | inr own ↦ subst (DerivedIn kinds) (sym own.0) (merged_derived kinds marks value kind stands own.1 sound)
]

closed_more : (kinds : List Kind) (marks : List Bool) (value : ℕ) (kind : Kind) → slice_get kinds value ≡ Some kind
    → closed_at marks value kind ≡ true → ((v : ℕ) (k : Kind) → v < value → slice_get kinds v ≡ Some k → closed_at marks v k ≡ true)
    → (v : ℕ) (k : Kind) → v < value + 1 → slice_get kinds v ≡ Some k → closed_at marks v k ≡ true
closed_more kinds marks value kind stands here before v k below is = elim (cases_below v value below) [
  | inl earlier ↦ before v k earlier is
  | inr same ↦
      let there : slice_get kinds value ≡ Some k = subst (λ (w : ℕ). slice_get kinds w ≡ Some k) same is in
      ap (λ (w : ℕ). closed_at marks w k) same ∙ ap (λ (j : Kind). closed_at marks value j) (same_Some k kind (sym there ∙ stands)) ∙ here
]

pub spread_more : {A : Type 0} (seen : A → Kind) (xs : List A) (value : ℕ) (d : A) (marks new : List Bool) → value < length xs
    → ((v : ℕ) → Marked marks v → DerivedIn (map seen xs) v)
    → ((v : ℕ) → Marked new v → Marked marks v ⊎ ((v ≡ value) × (kind_merged marks (seen (get_or xs value d)) ≡ true)))
    → (v : ℕ) → Marked new v → DerivedIn (map seen xs) v
spread_more seen xs value d marks new below sound each =
    let stands = get_map seen xs value (get_or xs value d) (slice_get-get_or xs value d below) in
    sound_more (map seen xs) marks new value (seen (get_or xs value d)) stands sound each

use_marked : (marks : List Bool) (values : List ℕ) (value : ℕ) → Contains values value → Marked marks value → list_any (has_mark marks) values ≡ true
use_marked marks [] value there marked = absurd (contains_none value there)
use_marked marks (first ∷ values) value there marked = elim (contains_cons first value values there) [
  | inl same ↦
      let here : has_mark marks first ≡ true = get_or_from_slice_get marks first true false (subst (Marked marks) (sym same) marked) in
      rw here refl
  | inr later ↦ or_true (has_mark marks first) (list_any (has_mark marks) values) (use_marked marks values value later marked)
]
  where
    or_true : (one second : Bool) → second ≡ true → (one || second) ≡ true
    or_true true second is = refl
    or_true false second is = is

closed_merge : (mark any : Bool) → (mark || not any) ≡ true → any ≡ true → mark ≡ true
closed_merge true any is used = refl
closed_merge false true is used = absurd (false≢true is)
closed_merge false false is used = absurd (false≢true used)

-- sound marks that are closed are those of the derived values
pub closed_marks : (kinds : List Kind) (marks : List Bool) → length marks ≡ length kinds → ((v : ℕ) → Marked marks v → DerivedIn kinds v)
    → ((v : ℕ) (kind : Kind) → slice_get kinds v ≡ Some kind → closed_at marks v kind ≡ true) → AreMarks kinds marks
closed_marks kinds marks whole sound closed = record { whole = whole ∙ sym (length-map kinds given_kind); sound = sound; complete = complete }
  where
    step_marked : (value : ℕ) (kind : Kind) → slice_get kinds value ≡ Some kind → step ≡ given_kind kind → Marked marks value
    step_marked value (steps before) stands is = mark_there marks value (closed value (steps before) stands)
    step_marked value (merges operands) stands is = absurd (let bad : step ≡ merge (filter_map value_in operands) = is in cc)
    step_marked value plain stands is = absurd (let bad : step ≡ other = is in cc)
    step_marked value (differs operands) stands is = absurd (let bad : step ≡ other = is in cc)

    user_marked : (value user : ℕ) (values : List ℕ) (kind : Kind) → slice_get kinds user ≡ Some kind → merge values ≡ given_kind kind → Contains values value
        → Marked marks value → Marked marks user
    user_marked value user values (merges operands) stands is there marked =
        let same : values ≡ filter_map value_in operands = (let e : merge values ≡ merge (filter_map value_in operands) = is in cc) in
        mark_there marks user
        (closed_merge (has_mark marks user) (any_marked marks operands) (closed user (merges operands) stands)
        (use_marked marks (filter_map value_in operands) value (subst (λ (vs : List ℕ). Contains vs value) same there) marked))
    user_marked value user values (steps before) stands is there marked = absurd (let bad : merge values ≡ step = is in cc)
    user_marked value user values plain stands is there marked = absurd (let bad : merge values ≡ other = is in cc)
    user_marked value user values (differs operands) stands is there marked = absurd (let bad : merge values ≡ other = is in cc)

    complete : (v : ℕ) → DerivedIn kinds v → Marked marks v
    complete _ (at_step value at) = let m = map_back given_kind kinds value step at in step_marked value m.before m.stands m.is
    complete _ (at_use value user used derived) =
        let m = map_back given_kind kinds user (merge used.values) used.stands in
        user_marked value user used.values m.before m.stands m.is used.used (complete value derived)
