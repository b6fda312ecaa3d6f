-- Rows of indices by value.
use Rattle.std.specs.Prelude.{◌≡◌, ℕ, suc, ◌==◌, Bool, false, if◌then◌else◌, List, [], ◌∷◌, slice_index}
use Rattle.std.specs.List.{list_any}
use Rattle.sp_ids.specs.declared.ids.ValueId.{ValueId}
use Rattle.ir_ast.specs.declared.ops.Operand.{Operand}
use Rattle.ir_ast.specs.declared.ops.Operand.TheVariants.{Value}
use Rattle.rewriting_forms.specs.Numbered.{base_at}
use Rattle.statepoint_insert.specs.declared.groups.Relocate.{Relocate}

-- the rank of the first that passes, counted from `rank`, or 0
abbrev pub placed : {A : Type 0} → (A → Bool) → ℕ → List A → ℕ
placed test rank [] = 0
placed test rank (x ∷ xs) = if test x then rank else placed test (suc rank) xs

-- the row has the ranks of these values, and 0 elsewhere
pub record HasRanks (rank : ℕ) (values : List ValueId) (row : List ℕ) : Type 0 where
  pub each : (v : ℕ) → slice_index row v ≡ placed (λ value. value.0 == v) rank values

pub record IsBlank (row : List ℕ) : Type 0 where
  pub each : (v : ℕ) → slice_index row v ≡ 0

-- the row is 0 but for these values
pub record IsBlankBeside (values : List ValueId) (row : List ℕ) : Type 0 where
  pub each : (v : ℕ) → list_any (λ value. value.0 == v) values ≡ false → slice_index row v ≡ 0

-- the index of an operand by the row
abbrev pub index_by : List ℕ → Operand → ℕ
index_by row (Value value) = slice_index row value.0
index_by row operand = 0

abbrev pub relocate_by : List Operand → List ℕ → ValueId → Relocate
relocate_by table row value = record { value = value; base = index_by row (base_at table value.0) }
