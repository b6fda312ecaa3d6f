-- The indices of bases, by a row that has the ranks of the listed values.
use Rattle.std.proofs.Common.{◌≡◌, ℕ, suc, ◌+◌, ◌<◌, Bool, true, false, eqb, if◌then◌else◌, List, [], ◌∷◌, ◌++◌, length, map, set, replicate, refl, ap, sym, arith, Some, None, Option, inl, inr, ◌∙◌}
use Rattle.std.specs.Prelude.{slice_index}
use Rattle.std.specs.List.{list_any, position, position_or_len}
use Rattle.std.specs.Option.{option_map_or}
use Rattle.std.proofs.lemmas.Bool.{cases_Bool, cases_eq, cases_lt, lt-ltb, le-ltb, eq-eqb, ne_eqb, false≢true}
use Rattle.std.proofs.lemmas.List.{get_or-set_same, get_or-set_other, get_or-replicate}
use Rattle.std.proofs.Math.ListN.{get_or-eq_default}
use Rattle.std.proofs.lemmas.List.{length-replicate}
use Rattle.sp_ids.specs.declared.ids.ValueId.{ValueId}
use Rattle.ir_ast.specs.declared.ops.Operand.{Operand}
use Rattle.ir_ast.specs.declared.ops.Operand.TheVariants.{Value, Int, Null, Fun}
use Rattle.rewriting_forms.specs.Numbered.{named, base_at}
use Rattle.rewriting_forms.specs.Rewritten.{is_null, same_operand}
use Rattle.statepoint_insert.specs.declared.groups.Relocate.{Relocate}
use Rattle.statepoint_insert.specs.Groups.{GroupContent, numbers_in, has_null_base, entries_of, index_in, relocate_in, group_of}
use Rattle.statepoint_insert.specs.Texts.{first_rank}
use Rattle.statepoint_insert.specs.Ranks.{placed, HasRanks, IsBlank, IsBlankBeside, index_by, relocate_by}

-- ---- ranks and places

pub placed_is : {A : Type 0} (test : A → Bool) (rank : ℕ) (xs : List A) → placed test rank xs ≡ option_map_or (λ place. rank + place) (position test xs) 0
placed_is test rank [] = refl
placed_is test rank (x ∷ xs) = elim (cases_Bool (test x)) [
  | inl passes ↦ rw (passes, lt-ltb 0 (length (x ∷ xs)) (omega arith)) (omega arith)
  | inr fails ↦
      let n = position_or_len test xs in
      let e : 1 + n ≡ suc n = omega arith in
      elim (cases_lt n (length xs)) [
        | inl below ↦
            let rest = rw (lt-ltb n (length xs) below) at (placed_is test (suc rank) xs) in
            rw (fails, e, lt-ltb (suc n) (length (x ∷ xs)) (omega (arith, below))) (omega (arith, rest))
        | inr beyond ↦
            let rest = rw (le-ltb n (length xs) beyond) at (placed_is test (suc rank) xs) in
            rw (fails, e, le-ltb (suc n) (length (x ∷ xs)) (omega (arith, beyond))) rest
      ]
]

from_zero : (o : Option ℕ) → option_map_or (λ place. 0 + place) o 0 ≡ option_map_or (λ place. place) o 0
from_zero None = refl
from_zero (Some place) = omega arith

pub index_placed : {A : Type 0} (test : A → Bool) (xs : List A) → option_map_or (λ place. place) (position test xs) 0 ≡ placed test 0 xs
index_placed test xs = sym (placed_is test 0 xs ∙ from_zero (position test xs))

placed_named : (rank w : ℕ) (values : List ValueId)
    → placed (λ entry. same_operand entry (named w)) rank (map (λ v. named v) (numbers_in values)) ≡ placed (λ value. eqb value.0 w) rank values
placed_named rank w [] = refl
placed_named rank w (value ∷ values) = elim (cases_Bool (eqb value.0 w)) [
  | inl same ↦ rw same refl
  | inr other ↦ rw other (placed_named (suc rank) w values)
]

placed_null : (rank : ℕ) (list : List ℕ) → placed (λ entry. same_operand entry Null) rank (map (λ v. named v) list) ≡ 0
placed_null rank [] = refl
placed_null rank (v ∷ list) = placed_null (suc rank) list

placed_int : (rank word : ℕ) (list : List ℕ) → placed (λ entry. same_operand entry (Int word)) rank (map (λ v. named v) list) ≡ 0
placed_int rank word [] = refl
placed_int rank word (v ∷ list) = placed_int (suc rank) word list

placed_none : {A : Type 0} (test : A → Bool) (rank : ℕ) (xs : List A) → list_any test xs ≡ false → placed test rank xs ≡ 0
placed_none test rank [] none = refl
placed_none test rank (x ∷ xs) none = elim (cases_Bool (test x)) [
  | inl passes ↦ absurd (let h = rw passes at none in false≢true (sym h))
  | inr fails ↦ rw fails (placed_none test (suc rank) xs (let h = rw fails at none in h))
]

pub null_first : (test : Operand → Bool) (has_null : Bool) (list : List ℕ) → test Null ≡ false
    → placed test 0 ((if has_null then Null ∷ [] else []) ++ map (λ v. named v) list) ≡ placed test (first_rank has_null) (map (λ v. named v) list)
null_first test true list fails = rw fails refl
null_first test false list fails = refl

null_found : (has_null : Bool) (list : List ℕ)
    → placed (λ entry. same_operand entry Null) 0 ((if has_null then Null ∷ [] else []) ++ map (λ v. named v) list) ≡ 0
null_found true list = refl
null_found false list = placed_null 0 list

index_row : (table : List Operand) (values : List ValueId) (row : List ℕ) (o : Operand)
    → HasRanks (first_rank (has_null_base table (numbers_in values))) values row → index_in table (numbers_in values) o ≡ index_by row o
index_row table values row (Value w) ranks =
    let list = numbers_in values in
    let has_null = has_null_base table list in
    index_placed (λ (entry : Operand). same_operand entry (Value w)) (entries_of table list)
    ∙ null_first (λ (entry : Operand). same_operand entry (Value w)) has_null list refl
    ∙ placed_named (first_rank has_null) w.0 values
    ∙ sym (ranks.each w.0)
index_row table values row Null ranks =
    index_placed (λ (entry : Operand). same_operand entry Null) (entries_of table (numbers_in values))
    ∙ null_found (has_null_base table (numbers_in values)) (numbers_in values)
index_row table values row (Int word) ranks =
    let list = numbers_in values in
    index_placed (λ (entry : Operand). same_operand entry (Int word)) (entries_of table list)
    ∙ null_first (λ (entry : Operand). same_operand entry (Int word)) (has_null_base table list) list refl
    ∙ placed_int (first_rank (has_null_base table list)) word list
index_row table values row (Fun func) ranks =
    let list = numbers_in values in
    index_placed (λ (entry : Operand). same_operand entry (Fun func)) (entries_of table list)
    ∙ null_first (λ (entry : Operand). same_operand entry (Fun func)) (has_null_base table list) list refl
    ∙ placed_fun (first_rank (has_null_base table list)) list
  where
    placed_fun : (rank : ℕ) (list : List ℕ) → placed (λ entry. same_operand entry (Fun func)) rank (map (λ v. named v) list) ≡ 0
    placed_fun rank [] = refl
    placed_fun rank (v ∷ list) = placed_fun (suc rank) list

relocates_row : (table : List Operand) (values : List ValueId) (row : List ℕ) (part : List ValueId)
    → HasRanks (first_rank (has_null_base table (numbers_in values))) values row
    → map (relocate_by table row) part ≡ map (relocate_in table (numbers_in values)) (numbers_in part)
relocates_row table values row [] ranks = refl
relocates_row table values row (value ∷ part) ranks =
    let here : relocate_by table row value ≡ relocate_in table (numbers_in values) value.0 =
    ap (λ (n : ℕ). (let made : Relocate = record { value = value; base = n } in made)) (sym (index_row table values row (base_at table value.0) ranks)) in
    let rest = relocates_row table values row part ranks in
    ap (λ (r : Relocate). r ∷ map (relocate_by table row) part) here ∙ ap (λ (rs : List Relocate). relocate_in table (numbers_in values) value.0 ∷ rs) rest

pub null_any : (table : List Operand) (values : List ValueId)
    → list_any (λ value. is_null (base_at table value.0)) values ≡ has_null_base table (numbers_in values)
null_any table [] = refl
null_any table (value ∷ values) = elim (cases_Bool (is_null (base_at table value.0))) [
  | inl yes' ↦ rw yes' refl
  | inr none ↦ rw none (null_any table values)
]

-- the group that is made by a row is that of the list
pub group_made : (table : List Operand) (values : List ValueId) (row : List ℕ) (has_null : Bool) (relocates : List Relocate)
    → has_null ≡ list_any (λ value. is_null (base_at table value.0)) values → HasRanks (first_rank has_null) values row
    → relocates ≡ map (relocate_by table row) values → (let made : GroupContent = record { has_null = has_null; relocates = relocates } in made) ≡ group_of table (numbers_in values)
group_made table values row has_null relocates null_is ranks made =
    let same = null_is ∙ null_any table values in
    let ranked : HasRanks (first_rank (has_null_base table (numbers_in values))) values row = rw same at ranks in
    let all = made ∙ relocates_row table values row values ranked in
    rw (same, all) refl

-- ---- rows

pub no_ranks : (rank : ℕ) (values : List ValueId) (row : List ℕ) → values ≡ [] → IsBlank row → HasRanks rank values row
no_ranks rank values row none blank = record { each = λ v. blank.each v ∙ sym (ap (λ (vs : List ValueId). placed (λ value. eqb value.0 v) rank vs) none) }

pub ranked_beside : (rank : ℕ) (values : List ValueId) (row : List ℕ) → HasRanks rank values row → IsBlankBeside values row
ranked_beside rank values row ranks = record { each = λ v none. ranks.each v ∙ placed_none (λ value. eqb value.0 v) rank values none }
