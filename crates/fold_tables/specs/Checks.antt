-- What the last looks ask of each instruction, which gives the value with this number or stands before it.
use Rattle.std.specs.Prelude.{◌≡◌, ℕ, ◌+◌, Bool, true, false, not, ◌&&◌, if◌then◌else◌, List, [], ◌∷◌, take, Option, Some, None, is_some, slice_get}
use Rattle.std.specs.List.{Contains}
use Rattle.ir_ast.specs.declared.types.Ty.{Ty}
use Rattle.ir_ast.specs.declared.ops.Operand.{Operand}
use Rattle.ir_ast.specs.Faults.TypeClash.{Fits}
use Rattle.ir_ast.specs.Insts.{Instruction}
use Rattle.ir_ast.specs.Lists.{has_mark}
use Rattle.ir_ast.specs.Operands.{named, same_operand, values_used}
use Rattle.folded_forms.specs.Folded.{Table, stands_for, stays}
use Rattle.folded_forms.specs.Foldable.{is_foldable}
use Rattle.folded_forms.specs.Foldings.{Folds}
use Rattle.folded_forms.specs.Pure.{is_pure}
use Rattle.fold_tables.specs.Lines.{results_of}

-- its line goes under the table
abbrev pub goes : Table → ℕ → Instruction → Bool
goes table value inst = is_some inst.result && not (stays table value)

-- where it goes, what stands for it reads the same
abbrev pub FoldsAt : Table → ℕ → Instruction → Type 0
FoldsAt table value inst = goes table value inst ≡ true → Folds table value inst (stands_for table (named value))

-- what stands for a value has its type
abbrev pub FitsAt : List Ty → Table → ℕ → Type 0
FitsAt types table value = (ty : Ty) → slice_get types value ≡ Some ty → Fits types (stands_for table (named value)) ty

-- where a marked value stands for it, it is marked
abbrev pub DerivedAlike : List Bool → Table → ℕ → Type 0
DerivedAlike marks table value = (to : ℕ) → stands_for table (named value) ≡ named to → has_mark marks to ≡ true → has_mark marks value ≡ true

-- a value that an operand names stays
abbrev pub StaysIn : Table → Operand → Type 0
StaysIn table operand = (value : ℕ) → operand ≡ named value → stays table value ≡ true

abbrev pub UsesStay : Table → Instruction → Type 0
UsesStay table inst = (value : ℕ) → Contains (values_used inst) value → stays table value ≡ true

-- where it goes it is pure, and where it stays all that it uses stays
pub record ThinsAt (table : Table) (value : ℕ) (inst : Instruction) : Type 0 where
  pub pure : goes table value inst ≡ true → is_pure inst ≡ true
  pub unused : goes table value inst ≡ false → UsesStay table inst

-- the value that an instruction gives
abbrev pub given : ℕ → Instruction → Option ℕ
given value inst = if is_some inst.result then Some value else None

-- it isn't foldable; if it is pure, it has a result, which has a mark
pub record LeftAt (marks : List Bool) (value : ℕ) (inst : Instruction) : Type 0 where
  pub settled : is_foldable value inst ≡ false
  pub given : is_pure inst ≡ true → is_some inst.result ≡ true
  pub used : is_pure inst ≡ true → has_mark marks value ≡ true

-- an instruction that uses the value, and doesn't give it
pub record UsedByAnother (first : ℕ) (insts : List Instruction) (value : ℕ) : Type 0 where
  pub place : ℕ
  pub user : Instruction
  pub stands : slice_get insts place ≡ Some user
  pub uses : Contains (values_used user) value
  pub another : is_some user.result ≡ true → first + results_of (take place insts) ≡ value → ⊥

-- a marked value is used by another instruction than that which gives it
abbrev pub MarksUsed : ℕ → List Instruction → List Bool → Type 0
MarksUsed first insts marks = (value : ℕ) → has_mark marks value ≡ true → UsedByAnother first insts value

-- the first of some operands, or none yet, and a further one are the same
abbrev pub agrees : Option Operand → Operand → Bool
agrees None operand = true
agrees (Some first) operand = same_operand first operand

-- the first of some operands with a further one
abbrev pub first_of : Option Operand → Operand → Option Operand
first_of None operand = Some operand
first_of (Some first) operand = Some first

-- all of these are the same as the first, of which there is one
abbrev pub agreed : Option Operand → List Operand → Bool
agreed None [] = false
agreed (Some first) [] = true
agreed None (operand ∷ operands) = agreed (Some operand) operands
agreed (Some first) (operand ∷ operands) = same_operand first operand && agreed (Some first) operands
