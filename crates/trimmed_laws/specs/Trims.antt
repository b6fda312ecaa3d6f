-- Functions some of whose lines go: which registers are kept, what stands for operands, and what is asked of a line that stays
-- and of one that goes.
use Rattle.std.specs.Prelude.{◌≡◌, ⊤, ℕ, ◌<◌, ◌≤◌, Bool, true, false, ◌||◌, List, [], ◌∷◌, length, map, take, drop, Option, slice_get, Ok}
use Rattle.std.specs.List.{All}
use Rattle.std.specs.Option.{option_map, IfSome}
use Rattle.ir_ast.specs.declared.ops.Operand.{Operand}
use Rattle.ir_ast.specs.declared.ops.Operand.TheVariants.{Value}
use Rattle.ir_ast.specs.declared.ops.Callee.{Callee}
use Rattle.ir_ast.specs.declared.ops.Callee.TheVariants.{TaskStart}
use Rattle.ir_ast.specs.declared.ops.Op.{Op}
use Rattle.ir_ast.specs.declared.ops.Op.TheVariants.{Call, Statepoint, GcRelocate, Switch}
use Rattle.ir_ast.specs.Insts.{Instruction}
use Rattle.ir_ast.specs.Layouts.{ObjectLayout}
use Rattle.ir_ast.specs.Objects.{Datum}
use Rattle.ir_ast.specs.Operands.{index_in, operands_of}
use Rattle.ir_ast.specs.Ops.{is_member, is_phi}
use Rattle.object_meaning.specs.Calls.{function_in}
use Rattle.object_meaning.specs.Computing.{value_of_line}
use Rattle.object_meaning.specs.Lines.{Line}
use Rattle.object_meaning.specs.Registers.{value}
use Rattle.renaming_laws.specs.Renamed.{ArgumentsFit, Renaming, renamed}
use Rattle.known_values.specs.Meanings.{register}
use Rattle.known_values.specs.Onward.{computes}

-- a function under other numbers, which of its registers are kept, what stands for each operand, and whether groups of statepoints
-- may be others
pub record Trim : Type 0 where
  pub renaming : Renaming
  pub kept : ℕ → Bool
  pub stands : Operand → Operand
  pub regroups : Bool

-- the functions that may be called
abbrev pub calls_of : (ℕ → Trim) → ℕ → Renaming
calls_of trims func = (trims func).renaming

-- a register that is kept has a number
abbrev pub HasNumber : Trim → ℕ → Type 0
HasNumber trim register = (register < trim.renaming.room) × (trim.kept register ≡ true)

abbrev pub IsNumbered : Trim → Operand → Type 0
IsNumbered trim (Value id) = HasNumber trim id.0
IsNumbered trim operand = ⊤

-- numbers of kept registers differ, and arguments keep theirs
pub record IsTrim (trim : Trim) : Type 0 where
  pub apart : (one other : ℕ) → HasNumber trim one → HasNumber trim other → trim.renaming.number one ≡ trim.renaming.number other → one ≡ other
  pub within : (register : ℕ) → HasNumber trim register → trim.renaming.number register < trim.renaming.now_room
  pub few_arguments : trim.renaming.arguments ≤ trim.renaming.room
  pub arguments : (register : ℕ) → register < trim.renaming.arguments → (trim.kept register ≡ true) × (trim.renaming.number register ≡ register)

-- each kept register has the same datum under its number
pub record Agree (trim : Trim) (registers now : List Datum) : Type 0 where
  pub each : (own : ℕ) → HasNumber trim own → register now (trim.renaming.number own) ≡ register registers own
  pub room : length registers ≡ trim.renaming.room
  pub now_room : length now ≡ trim.renaming.now_room

-- ---- a line that stays

-- what stands for an operand, under its number
abbrev pub now_operand : Trim → Operand → Operand
now_operand trim operand = renamed trim.renaming.number (trim.stands operand)

abbrev pub trimmed_line : Trim → Option (List ℕ) → Line → Line
trimmed_line trim name line = record {
  to = option_map trim.renaming.number line.to;
  inst = record line.inst {
    result = name;
    operands = map (now_operand trim) line.inst.operands;
    bundle = map (λ entry. (entry.0, now_operand trim entry.1)) line.inst.bundle;
  };
}

-- the function of a new task, the index of a relocate and the cases of a switch stay
abbrev pub FunctionStays : Trim → Callee → List Operand → Type 0
FunctionStays trim TaskStart operands = function_in (slice_get (map (now_operand trim) operands) 0) ≡ function_in (slice_get operands 0)
FunctionStays trim callee operands = ⊤

abbrev pub LiteralsStay : Trim → Op → List Operand → Type 0
LiteralsStay trim (Call callee types) operands = FunctionStays trim callee operands
LiteralsStay trim (Statepoint id callee types) operands = FunctionStays trim callee (take (length types) operands)
LiteralsStay trim GcRelocate operands = index_in (slice_get (map (now_operand trim) operands) 2) ≡ index_in (slice_get operands 2)
LiteralsStay trim Switch operands = map (now_operand trim) (drop 1 operands) ≡ drop 1 operands
LiteralsStay trim op operands = ⊤

-- its result and what stands for its operands, those of its bundle too, have numbers, and its calls pass what is taken
pub record IsStaying (calls : ℕ → Renaming) (trim : Trim) (line : Line) : Type 0 where
  pub result : IfSome line.to (HasNumber trim)
  pub operands : All (λ operand. IsNumbered trim (trim.stands operand)) (operands_of line.inst)
  pub arguments : ArgumentsFit calls line.inst.op line.inst.operands
  pub literals : LiteralsStay trim line.inst.op line.inst.operands

-- ---- a line that goes

-- what stands for these operands reads what they read
abbrev pub ReadSame : (Operand → Operand) → List Datum → List Operand → Type 0
ReadSame stands registers operands = All (λ operand. value registers (stands operand) ≡ value registers operand) operands

-- wherever what stands for its operands reads the same, it gives a value
abbrev pub NeverTraps : List ObjectLayout → (Operand → Operand) → Instruction → Type 0
NeverTraps layouts stands inst =
    (registers : List Datum) → ReadSame stands registers inst.operands → (result : Datum) × (value_of_line layouts registers inst.op inst.ty inst.operands ≡ Ok result)

-- a phi or a member of a statepoint's group, which took effect before, or a line that computes and can't trap
pub data MayGo (layouts : List ObjectLayout) (stands : Operand → Operand) (inst : Instruction) : Type 0 where
  taken_before : is_phi inst.op || is_member inst.op ≡ true → MayGo layouts stands inst
  computing : computes inst.op ≡ true → NeverTraps layouts stands inst → MayGo layouts stands inst

-- whether the first of these lines is of a class
abbrev pub starts : (Op → Bool) → List Line → Bool
starts test [] = false
starts test (line ∷ lines) = test line.inst.op

-- its result isn't kept; and where it is no phi, none stands behind it, which would then stand at a block's front, nor a member
pub record IsGone (layouts : List ObjectLayout) (trim : Trim) (line : Line) (others : List Line) : Type 0 where
  pub may : MayGo layouts trim.stands line.inst
  pub unkept : IfSome line.to (λ register. trim.kept register ≡ false)
  pub phis : is_phi line.inst.op ≡ false → starts is_phi others ≡ false
  pub members : is_member line.inst.op ≡ false → starts is_member others ≡ false
