-- A step of the target meaning, and that of the machine.
use Rattle.std.specs.Prelude.{◌≡◌, ℕ, true, false, List, length, Some, slice_get}
use Rattle.std.specs.List.{AllZip}
use Rattle.sp_ids.specs.declared.ends.End.{End}
use Rattle.ir_ast.specs.declared.cells.Cell.{Cell}
use Rattle.ir_ast.specs.declared.cells.Cell.TheVariants.{I64, Ptr}
use Rattle.ir_ast.specs.declared.ops.Callee.TheVariants.{Check}
use Rattle.ir_ast.specs.declared.types.Ty.{Ty}
use Rattle.ir_ast.specs.declared.types.Ty.TheVariants.{Int, Ptr as Managed}
use Rattle.ir_ast.specs.declared.ops.Pred.{Pred}
use Rattle.ir_ast.specs.declared.ops.Pred.TheVariants.{Eq, Ne}
use Rattle.ir_ast.specs.declared.ops.Op.{Op}
use Rattle.ir_ast.specs.declared.ops.Op.TheVariants as ops
use Rattle.ir_ast.specs.declared.ops.Operand.{Operand}
use Rattle.ir_ast.specs.Faults.TypeClash.{Fits}
use Rattle.ir_ast.specs.Modules.{ModuleContent}
use Rattle.ir_ast.specs.Objects.{Datum}
use Rattle.ir_ast.specs.Types.{is_pointer}
use Rattle.object_meaning.specs.Accesses.{cell_named}
use Rattle.object_meaning.specs.Registers.{operand, number_in}
use Rattle.object_meaning.specs.Effects.{Effect, goes_on, prints, ends}
use Rattle.object_meaning.specs.Lines.{Line}
use Rattle.object_meaning.specs.States.{State}
use Rattle.machine_meaning.specs.Code.{words_in}
use Rattle.machine_meaning.specs.Machines.{Machine, Machinery}
use Rattle.pair_facts.specs.declared.bases.Base.TheVariants.{Named}
use Rattle.pair_facts.specs.Pairs.{Pairs}
use Rattle.pair_facts.specs.Lines.{line_before, operand_at}
use Rattle.moves_unseen.specs.Frames.{IsWaiting}
use Rattle.moves_unseen.specs.Objects.{AreHeld}
use Rattle.moves_unseen.specs.States.{Extra, Follows, machine_of}

-- the last states of a run: of the running frame no more is asked than how many words it has
pub record IsLast (content : ModuleContent) (machinery : Machinery) (state : State) (machine : Machine) : Type 0 where
  pub extra : Extra
  pub is : machine ≡ machine_of machinery state extra
  pub objects : AreHeld content.layouts state.objects extra.heap.stands extra.heap.contents
  pub below : AllZip (IsWaiting content extra.heap.stands) state.below extra.below
  pub room : length extra.running.slots ≡ words_in content state.running.func

-- both do the same, and the relation holds after it
pub data StepFollows (content : ModuleContent) (machinery : Machinery) : Effect State → Effect Machine → Type 0 where
  both_go : (state : State) (machine : Machine) → Follows content machinery state machine → StepFollows content machinery (goes_on state) (goes_on machine)
  both_print : (word : ℕ) (state : State) (machine : Machine) → Follows content machinery state machine
      → StepFollows content machinery (prints word state) (prints word machine)
  both_end : (end : End) (state : State) (machine : Machine) → IsLast content machinery state machine
      → StepFollows content machinery (ends end state) (ends end machine)

-- operators on integers
pub data IsArithmetic : Op → Type 0 where
  add : IsArithmetic ops.Add
  sub : IsArithmetic ops.Sub
  mul : IsArithmetic ops.Mul
  udiv : IsArithmetic ops.Udiv
  sdiv : IsArithmetic ops.Sdiv
  urem : IsArithmetic ops.Urem
  srem : IsArithmetic ops.Srem
  conjunction : IsArithmetic ops.And
  disjunction : IsArithmetic ops.Or
  difference : IsArithmetic ops.Xor
  shl : IsArithmetic ops.Shl
  lshr : IsArithmetic ops.Lshr
  ashr : IsArithmetic ops.Ashr
  trunc : (width : ℕ) → IsArithmetic (ops.Trunc width)
  zext : (width : ℕ) → IsArithmetic (ops.Zext width)
  sext : (width : ℕ) → IsArithmetic (ops.Sext width)

-- a value of a type that is no pointer
pub record IsNumber (types : List Ty) (operand : Operand) : Type 0 where
  pub ty : Ty
  pub fits : Fits types operand ty
  pub plain : is_pointer ty ≡ false

-- a line whose first two operands are numbers, and which gives a number
pub record GivesNumber (types : List Ty) (line : Line) : Type 0 where
  pub first : IsNumber types (operand_at line.inst.operands 0)
  pub second : IsNumber types (operand_at line.inst.operands 1)
  pub given : ℕ
  pub to : line.to ≡ Some given
  pub ty : Ty
  pub typed : slice_get types given ≡ Some ty
  pub plain : is_pointer ty ≡ false

-- a line that gives a pointer
pub record GivesPointer (types : List Ty) (line : Line) : Type 0 where
  pub given : ℕ
  pub to : line.to ≡ Some given
  pub ty : Ty
  pub typed : slice_get types given ≡ Some ty
  pub managed : is_pointer ty ≡ true

-- the line before is a check of this address, for a cell of this kind
pub record IsCheckedBefore (lines : List Line) (place : ℕ) (registers : List Datum) (address : Operand) (asked : Cell) : Type 0 where
  pub check : Line
  pub types : List Ty
  pub before : line_before lines place ≡ Some check
  pub op : check.inst.op ≡ ops.Call Check types
  pub same_address : operand_at check.inst.operands 1 ≡ address
  pub kind : cell_named (number_in (operand registers check.inst.operands 2)) ≡ asked

-- what a store puts into a cell of a kind: a number, or a pointer that is its own base
abbrev pub IsStored : List Ty → Pairs → Operand → Cell → Type 0
IsStored types pairs operand I64 = IsNumber types operand
IsStored types pairs operand Ptr = pairs operand (Named operand) ≡ true

-- what is compared: two numbers, or two pointers that are their own bases, which are only equal or not
pub data IsCompared (types : List Ty) (pairs : Pairs) (line : Line) : Pred → Type 0 where
  integers : (pred : Pred) (width : ℕ) → line.inst.ty ≡ Int width → IsNumber types (operand_at line.inst.operands 0)
      → IsNumber types (operand_at line.inst.operands 1) → IsCompared types pairs line pred
  equal : line.inst.ty ≡ Managed → pairs (operand_at line.inst.operands 0) (Named (operand_at line.inst.operands 0)) ≡ true
      → pairs (operand_at line.inst.operands 1) (Named (operand_at line.inst.operands 1)) ≡ true → IsCompared types pairs line Eq
  differing : line.inst.ty ≡ Managed → pairs (operand_at line.inst.operands 0) (Named (operand_at line.inst.operands 0)) ≡ true
      → pairs (operand_at line.inst.operands 1) (Named (operand_at line.inst.operands 1)) ≡ true → IsCompared types pairs line Ne
