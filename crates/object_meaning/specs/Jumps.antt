-- Jumps: where a terminator leads, and the phis of the block there (LLVM Language Reference, "'phi' Instruction").
use Rattle.std.specs.Prelude.{ℕ, ◌+◌, ◌==◌, Bool, false, if◌then◌else◌, List, take, drop, map, slice_get}
use Rattle.std.specs.List.{prefix_len, position}
use Rattle.std.specs.Option.{option_map_or}
use Rattle.sp_ids.specs.declared.ids.BlockId.{BlockId}
use Rattle.ir_ast.specs.declared.ops.Operand.{Operand}
use Rattle.ir_ast.specs.declared.ops.Operand.TheVariants.{Int}
use Rattle.ir_ast.specs.Insts.{Instruction}
use Rattle.ir_ast.specs.Faults.PhiEdges.{is_phi}
use Rattle.ir_ast.specs.Objects.{Datum}
use Rattle.object_meaning.specs.Lines.{Line}
use Rattle.object_meaning.specs.Registers.{nothing, operand, is_set, number_in, Write, put_all}
use Rattle.object_meaning.specs.States.{Frame, State, Setting}
use Rattle.object_meaning.specs.Effects.{Effect, goes_on}

-- the operand of a phi on an edge from this block: its first entry with the block's label
abbrev pub incoming : ℕ → List Datum → Instruction → Datum
incoming from registers phi =
    option_map_or (operand registers phi.operands) (position (λ label. label.0 == from) phi.labels) nothing

abbrev pub phi_write : ℕ → List Datum → Line → Write
phi_write from registers phi = record { to = phi.to; value = incoming from registers phi.inst }

abbrev pub phi_count : List Line → ℕ
phi_count lines = prefix_len (λ line. is_phi line.inst.op) lines

-- the frame at the lines of another block: its phis take effect together, and it stands behind them
abbrev pub arrived : Frame → ℕ → List Line → Frame
arrived frame block lines = record frame {
  block = block;
  rest = drop (phi_count lines) lines;
  registers = put_all (map (phi_write frame.block frame.registers) (take (phi_count lines) lines)) frame.registers;
}

abbrev pub jumped : Setting → ℕ → State → Effect State
jumped setting block state =
    goes_on (record state { running = arrived state.running block (setting.lines state.running.func block) })

abbrev pub label_at : List BlockId → ℕ → ℕ
label_at labels place = option_map_or (λ label. label.0) (slice_get labels place) 0

abbrev pub is_case : ℕ → Operand → Bool
is_case number (Int literal) = literal == number
is_case number _ = false

-- which label of a `br` with a condition is taken, and which of a `switch`: the default label stands first
abbrev pub branch_taken : Datum → ℕ
branch_taken condition = if is_set condition then 0 else 1

abbrev pub case_taken : Datum → List Operand → ℕ
case_taken value cases = option_map_or (λ place. place + 1) (position (is_case (number_in value)) cases) 0
