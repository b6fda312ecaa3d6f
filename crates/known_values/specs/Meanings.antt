-- What is known of a function's values: equations with other values of it, which hold wherever these values are defined.
use Rattle.std.specs.Prelude.{◌≡◌, ◌⊎◌, ℕ, suc, ◌<◌, ◌≤◌, true, List, length, map, take, Option, Some, Ok, slice_get, slice_index_or}
use Rattle.std.specs.List.{Contains}
use Rattle.ir_ast.specs.Blocks.{BasicBlock}
use Rattle.ir_ast.specs.Funcs.{Function}
use Rattle.ir_ast.specs.Insts.{Instruction}
use Rattle.ir_ast.specs.Layouts.{ObjectLayout}
use Rattle.ir_ast.specs.Objects.{Datum}
use Rattle.ir_ast.specs.Ops.{is_phi}
use Rattle.ir_cfg.specs.DefiniteUses.{Defines}
use Rattle.ir_cfg.specs.Graphs.{Edge, graph_of}
use Rattle.object_meaning.specs.BlockLines.{lines_at}
use Rattle.object_meaning.specs.Computing.{value_of_line}
use Rattle.object_meaning.specs.Jumps.{phi_count, phi_write}
use Rattle.object_meaning.specs.Registers.{nothing, put, put_all}
use Rattle.base_definite.specs.Comings.{Comes}
use Rattle.base_definite.proofs.base_paths.UndefinedLaws.{Undefined}
use Rattle.known_values.specs.Onward.{computes}

-- a function of registers, and the values that it reads besides arguments
pub record Meaning : Type 0 where
  pub of : List Datum → Datum
  pub support : List ℕ

-- the values that have one
abbrev pub Meanings : Type 0
Meanings = ℕ → Option Meaning

abbrev pub register : List Datum → ℕ → Datum
register registers value = slice_index_or registers value nothing

-- the equation of a value
abbrev pub Holds : ℕ → Meaning → List Datum → Type 0
Holds value meaning registers = register registers value ≡ meaning.of registers

-- at a place each equation holds, or some path comes there without a definition of its value
abbrev pub AllHold : Function → Meanings → ℕ → ℕ → List Datum → Type 0
AllHold func meanings block place registers =
    (value : ℕ) (meaning : Meaning) → meanings value ≡ Some meaning → Undefined func value block place ⊎ Holds value meaning registers

-- both have the same in what a meaning reads
abbrev pub ReadSame : Function → Meaning → List Datum → List Datum → Type 0
ReadSame func meaning one other =
    (read : ℕ) → (read < length func.args) ⊎ Contains meaning.support read → register one read ≡ register other read

-- the registers behind so many phis of a block, on an edge from this block
abbrev pub at_edge : Function → ℕ → ℕ → ℕ → List Datum → List Datum
at_edge func from block count registers = put_all (map (phi_write from registers) (take count (lines_at func block))) registers

-- behind the line that gives a value its equation holds, if before it all equations hold of what is defined: behind a line that
-- computes, or on each edge behind a phi at the front of a block
pub data IsGiven (layouts : List ObjectLayout) (func : Function) (meanings : Meanings) (value : ℕ) (meaning : Meaning) (block place : ℕ) (inst : Instruction)
    : Type 0 where
  by_line : computes inst.op ≡ true
      → ((registers : List Datum) (result : Datum) → value < length registers → Comes func block place → AllHold func meanings block place registers
      → value_of_line layouts registers inst.op inst.ty inst.operands ≡ Ok result → Holds value meaning (put (Some value) result registers))
      → IsGiven layouts func meanings value meaning block place inst
  by_phi : is_phi inst.op ≡ true → 0 < block → place < phi_count (lines_at func block)
      → ((from : ℕ) (left : BasicBlock) (registers : List Datum) → value < length registers → slice_get func.blocks from ≡ Some left
      → Edge (graph_of func) from block → Comes func from (length left.insts) → AllHold func meanings from (length left.insts) registers
      → Holds value meaning (at_edge func from block (suc place) registers))
      → IsGiven layouts func meanings value meaning block place inst

-- where a value that a meaning reads isn't defined, neither is the value that has the meaning
pub record AreKnown (layouts : List ObjectLayout) (func : Function) (meanings : Meanings) : Type 0 where
  pub reads : (value : ℕ) (meaning : Meaning) → meanings value ≡ Some meaning → (one other : List Datum) → ReadSame func meaning one other
      → meaning.of one ≡ meaning.of other
  pub support : (value : ℕ) (meaning : Meaning) → meanings value ≡ Some meaning → (read : ℕ) → Contains meaning.support read → length func.args ≤ read
      → (block place : ℕ) → Undefined func read block place → Undefined func value block place
  pub given : (value : ℕ) (meaning : Meaning) → meanings value ≡ Some meaning → (block place : ℕ) → (defines : Defines func value block place)
      → IsGiven layouts func meanings value meaning block place defines.inst
