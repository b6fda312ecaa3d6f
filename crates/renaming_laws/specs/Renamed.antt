-- Lines under other numbers for their registers.
use Rattle.std.specs.Prelude.{⊤, ℕ, ◌<◌, ◌≤◌, ◌≡◌, Bool, true, List, length, map, take, drop, Option, slice_get}
use Rattle.std.specs.List.{All}
use Rattle.std.specs.Option.{option_map, IfSome}
use Rattle.ir_ast.specs.declared.ops.Operand.{Operand}
use Rattle.ir_ast.specs.declared.ops.Operand.TheVariants.{Value}
use Rattle.ir_ast.specs.declared.ops.Callee.{Callee}
use Rattle.ir_ast.specs.declared.ops.Callee.TheVariants.{Fun, TaskStart}
use Rattle.ir_ast.specs.declared.ops.Op.{Op}
use Rattle.ir_ast.specs.declared.ops.Op.TheVariants.{Call, Statepoint, Br, CondBr, Switch}
use Rattle.sp_ids.specs.declared.ids.BlockId.{BlockId}
use Rattle.object_meaning.specs.Lines.{Line}
use Rattle.object_meaning.specs.Calls.{function_in}
use Rattle.object_meaning.specs.Jumps.{label_at}

-- an operand whose register has another number
abbrev pub renamed : (ℕ → ℕ) → Operand → Operand
renamed number (Value id) = Value (record { 0 = number id.0 })
renamed number operand = operand

-- a line whose registers have other numbers, and whose result may have another name in the text
abbrev pub renamed_line : (ℕ → ℕ) → Option (List ℕ) → Line → Line
renamed_line number name line = record {
  to = option_map number line.to;
  inst = record line.inst {
    result = name;
    operands = map (renamed number) line.inst.operands;
    bundle = map (λ entry. (entry.0, renamed number entry.1)) line.inst.bundle;
  };
}

-- a function: whether there is one to call, how many arguments it has, how many registers it has before and now, the number
-- that each register has now, and the blocks to which its jumps lead
pub record Renaming : Type 0 where
  pub called : Bool
  pub arguments : ℕ
  pub room : ℕ
  pub now_room : ℕ
  pub number : ℕ → ℕ
  pub entered : ℕ → Bool

-- registers have numbers that differ, and arguments keep theirs
pub record IsRenaming (function : Renaming) : Type 0 where
  pub apart : (one other : ℕ) → one < function.room → other < function.room → function.number one ≡ function.number other → one ≡ other
  pub within : (register : ℕ) → register < function.room → function.number register < function.now_room
  pub few_arguments : function.arguments ≤ function.room
  pub arguments : (register : ℕ) → register < function.arguments → function.number register ≡ register

-- ---- what a line asks of it

-- the register of an operand is one of so many
abbrev pub InRoom : ℕ → Operand → Type 0
InRoom room (Value id) = id.0 < room
InRoom room operand = ⊤

-- the function is there, and has so many arguments or more
pub record Takes (function : Renaming) (count : ℕ) : Type 0 where
  pub called : function.called ≡ true
  pub few : count ≤ function.arguments

-- a call passes no more arguments than its callee has
abbrev pub CalleeTakes : (ℕ → Renaming) → Callee → List Operand → Type 0
CalleeTakes functions (Fun func) operands = Takes (functions func.0) (length operands)
CalleeTakes functions TaskStart operands = Takes (functions (function_in (slice_get operands 0))) 1
CalleeTakes functions callee operands = ⊤

abbrev pub ArgumentsFit : (ℕ → Renaming) → Op → List Operand → Type 0
ArgumentsFit functions (Call callee types) operands = CalleeTakes functions callee operands
ArgumentsFit functions (Statepoint id callee types) operands = CalleeTakes functions callee (take (length types) operands)
ArgumentsFit functions op operands = ⊤

-- the block to which this label leads is one that is entered
abbrev pub LeadsIn : (ℕ → Bool) → List BlockId → ℕ → Type 0
LeadsIn entered labels place = entered (label_at labels place) ≡ true

-- so is each to which a line may lead
abbrev pub Leads : (ℕ → Bool) → Op → List Operand → List BlockId → Type 0
Leads entered Br operands labels = LeadsIn entered labels 0
Leads entered CondBr operands labels = LeadsIn entered labels 0 × LeadsIn entered labels 1
Leads entered Switch operands labels = (place : ℕ) → place ≤ length (drop 1 operands) → LeadsIn entered labels place
Leads entered op operands labels = ⊤

-- the registers of a line of this function exist, its calls pass what is taken, and it leads to blocks that are entered
pub record IsLineOf (functions : ℕ → Renaming) (func : ℕ) (line : Line) : Type 0 where
  pub result : IfSome line.to (λ register. register < (functions func).room)
  pub operands : All (InRoom (functions func).room) line.inst.operands
  pub bundle : All (λ entry. InRoom (functions func).room entry.1) line.inst.bundle
  pub arguments : ArgumentsFit functions line.inst.op line.inst.operands
  pub leads : Leads (functions func).entered line.inst.op line.inst.operands line.inst.labels
