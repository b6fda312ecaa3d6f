-- How foldings and thinnings are found, one value at a time.
use Rattle.std.specs.Prelude.{◌≡◌, ◌⊎◌, ℕ, true, false, if◌then◌else◌, [], length, map, Some, is_some, slice_get, Ok}
use Rattle.std.specs.List.{Contains, list_all, range_with_len}
use Rattle.ir_ast.specs.declared.ops.Operand.{Operand}
use Rattle.ir_ast.specs.declared.ops.Operand.TheVariants.{Int, Null}
use Rattle.ir_ast.specs.Funcs.{Function, instructions_of}
use Rattle.ir_ast.specs.Insts.{Instruction}
use Rattle.ir_ast.specs.Modules.{ModuleContent}
use Rattle.ir_ast.specs.Objects.{number}
use Rattle.ir_ast.specs.Operands.{is_literal, named, same_operand, values_used}
use Rattle.ir_ast.specs.Values.{Gives, definitions_of}
use Rattle.ir_ast.specs.Faults.GroupShape.{number_at}
use Rattle.ir_cfg.specs.SourceModules.{IsSourceModule}
use Rattle.object_meaning.specs.Computing.{value_of_line}
use Rattle.known_values.specs.Onward.{computes}
use Rattle.folded_forms.specs.Foldable.{substitute}
use Rattle.folded_forms.specs.Folded.{Table, stands_for, stays}
use Rattle.folded_forms.specs.Foldings.{IsFolding, IsThinning}
use Rattle.folded_forms.specs.Pure.{is_pure}

-- every value stands for itself
abbrev pub unchanged : Function → Table
unchanged func = map named (range_with_len 0 (length (definitions_of func)))

-- the operand stands for the value, and wherever the value stood
abbrev pub replaced : Table → ℕ → Operand → Table
replaced table value to = map (λ each. if same_operand (named value) each then to else each) table

-- of what stands for its operands the instruction gives a literal, or an operand is chosen or meets alone
pub data Steps (table : Table) (value : ℕ) (inst : Instruction) : Operand → Type 0 where
  by_literals : (literal : ℕ) → computes inst.op ≡ true → list_all is_literal (map (stands_for table) inst.operands) ≡ true
      → value_of_line [] [] inst.op inst.ty (map (stands_for table) inst.operands) ≡ Ok (number literal) → Steps table value inst (Int literal)
  by_substitute : (to : Operand) → substitute value (map (stands_for table) inst.operands) inst.op ≡ Some to → Steps table value inst to

-- a folding begins with nothing replaced
abbrev pub FoldingsBegin : Type 0
FoldingsBegin = (func : Function) → IsFolding func (unchanged func)

-- and with one value more it is a folding again
abbrev pub FoldingsGrow : Type 0
FoldingsGrow = (content : ModuleContent) → IsSourceModule content → (place : ℕ) (func : Function) → slice_get content.funcs place ≡ Some func
    → (table : Table) → IsFolding func table → (value : ℕ) (inst : Instruction) (to : Operand) → Gives func value inst → stays table value ≡ true → Steps table value inst to
    → IsFolding func (replaced table value to)

-- what uses the value has a result that goes, or that is it
abbrev pub IsLeft : Function → Table → ℕ → Type 0
IsLeft func table value = (place : ℕ) (user : Instruction) → slice_get (instructions_of func.blocks) place ≡ Some user → Contains (values_used user) value
    → (is_some user.result ≡ true) × ((stays table (number_at func place) ≡ false) ⊎ (number_at func place ≡ value))

abbrev pub ThinningsBegin : Type 0
ThinningsBegin = (func : Function) → IsThinning func (unchanged func)

abbrev pub ThinningsGrow : Type 0
ThinningsGrow = (func : Function) (table : Table) → IsThinning func table → (value : ℕ) (inst : Instruction) → Gives func value inst → is_pure inst ≡ true → stays table value ≡ true
    → IsLeft func table value → IsThinning func (replaced table value Null)
