-- Tables in which only what reads the same stands for a value, and tables of values that nothing needs. No order is asked for.
use Rattle.std.specs.Prelude.{◌≡◌, ◌⊎◌, ℕ, ◌<◌, true, false, nat_lt, if◌then◌else◌, [], ◌∷◌, length, map, Some, is_some, slice_get, Ok}
use Rattle.std.specs.List.{All, Contains, list_all}
use Rattle.ir_ast.specs.declared.ops.Operand.{Operand}
use Rattle.ir_ast.specs.declared.ops.Operand.TheVariants.{Int}
use Rattle.ir_ast.specs.declared.ops.Op.TheVariants.{Phi, Select}
use Rattle.ir_ast.specs.declared.types.Ty.{Ty}
use Rattle.ir_ast.specs.Derived.{Derived}
use Rattle.ir_ast.specs.Funcs.{Function, instructions_of}
use Rattle.ir_ast.specs.Insts.{Instruction}
use Rattle.ir_ast.specs.Objects.{number}
use Rattle.ir_ast.specs.Operands.{is_literal, named, values_used}
use Rattle.ir_ast.specs.Values.{Gives, definitions_of, value_types}
use Rattle.ir_ast.specs.Faults.GroupShape.{number_at}
use Rattle.ir_ast.specs.Faults.TypeClash.{Fits}
use Rattle.object_meaning.specs.Computing.{value_of_line}
use Rattle.known_values.specs.Onward.{computes}
use Rattle.folded_forms.specs.Folded.{Table, stands_for, stays}
use Rattle.folded_forms.specs.Pure.{is_pure}

-- an operand stands under the table for the result with this number of this instruction
pub data Folds (table : Table) (value : ℕ) (inst : Instruction) : Operand → Type 0 where
  -- under the table the operator of its literals gives the literal
  by_operator : (literal : ℕ) → computes inst.op ≡ true → list_all is_literal (map (stands_for table) inst.operands) ≡ true
      → value_of_line [] [] inst.op inst.ty (map (stands_for table) inst.operands) ≡ Ok (number literal) → Folds table value inst (Int literal)
  -- under the table the condition is a literal, and the chosen operand stands for the same
  by_choice : (asked first second : Operand) (condition : ℕ) → inst.op ≡ Select → inst.operands ≡ asked ∷ first ∷ second ∷ []
      → stands_for table asked ≡ Int condition → Folds table value inst (stands_for table (if nat_lt 0 condition then first else second))
  -- each entry stands for the same or is the phi
  by_entries : (to : Operand) → inst.op ≡ Phi → All (λ entry. (entry ≡ named value) ⊎ (stands_for table entry ≡ to)) inst.operands → Folds table value inst to

pub record IsFolding (func : Function) (table : Table) : Type 0 where
  pub whole : length table ≡ length (definitions_of func)
  pub arguments : (value : ℕ) → value < length func.args → stays table value ≡ true
  pub closed : (value : ℕ) → stands_for table (stands_for table (named value)) ≡ stands_for table (named value)
  pub each : (value : ℕ) (inst : Instruction) → Gives func value inst → stays table value ≡ false → Folds table value inst (stands_for table (named value))
  -- what stands for a value has its type, and is derived only where the value is: phis of a loop that isn't reached may be over
  -- each other alone, so their entries don't say it
  pub typed : (value : ℕ) (ty : Ty) → slice_get (value_types func) value ≡ Some ty → Fits (value_types func) (stands_for table (named value)) ty
  pub derived : (value to : ℕ) → stands_for table (named value) ≡ named to → Derived func to → Derived func value

-- what the table drops is pure, and used by nothing that stays
pub record IsThinning (func : Function) (table : Table) : Type 0 where
  pub whole : length table ≡ length (definitions_of func)
  pub arguments : (value : ℕ) → value < length func.args → stays table value ≡ true
  pub pure : (value : ℕ) (inst : Instruction) → Gives func value inst → stays table value ≡ false → is_pure inst ≡ true
  pub unused : (value : ℕ) → stays table value ≡ false → (place : ℕ) (user : Instruction) → slice_get (instructions_of func.blocks) place ≡ Some user
      → Contains (values_used user) value → (is_some user.result ≡ true) × (stays table (number_at func place) ≡ false)
