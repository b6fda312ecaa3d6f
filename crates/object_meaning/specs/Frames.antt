-- Frames: a new one, one that goes on, and one that gets its call's answer.
use Rattle.std.specs.Prelude.{ℕ, ◌-◌, List, [], ◌∷◌, ◌++◌, length, take, drop, map, replicate, slice_get}
use Rattle.std.specs.List.{prefix_len}
use Rattle.ir_ast.specs.declared.ops.Operand.{Operand}
use Rattle.ir_ast.specs.declared.ops.Op.{Op}
use Rattle.ir_ast.specs.declared.ops.Op.TheVariants.{Statepoint, GcRelocate}
use Rattle.ir_ast.specs.Objects.{Datum}
use Rattle.object_meaning.specs.Lines.{Line}
use Rattle.object_meaning.specs.Registers.{nothing, operand, Write, put, put_all}
use Rattle.object_meaning.specs.States.{Frame, State, Setting}
pub use Rattle.ir_ast.specs.Ops.{is_member}
pub use Rattle.ir_ast.specs.Operands.{index_in}

-- the first frame of a call: arguments come first, every other register starts as 0
abbrev pub entered : Setting → ℕ → List Datum → Frame
entered setting func arguments = record {
  func = func;
  block = 0;
  rest = setting.front ++ setting.lines func 0;
  registers = arguments ++ replicate (setting.registers func - length arguments) nothing;
}

-- the running frame goes on behind a line with this result
abbrev pub passed : State → Line → List Line → Datum → State
passed state line rest result =
    record state { running = record state.running { rest = rest; registers = put line.to result state.running.registers } }

-- a result is the callee's answer; a relocate is what its derived entry was at the statepoint, which has these entries
abbrev pub member_value : List Datum → List Operand → Datum → Line → Op → Datum
member_value registers entries answer member GcRelocate =
    operand registers entries (index_in (slice_get member.inst.operands 2))
member_value registers entries answer member _ = answer

abbrev pub member_write : List Datum → List Operand → Datum → Line → Write
member_write registers entries answer member =
    record { to = member.to; value = member_value registers entries answer member member.inst.op }

abbrev pub group_length : List Line → ℕ
group_length rest = prefix_len (λ line. is_member line.inst.op) rest

-- a frame behind a statepoint with these entries, whose callee gave this answer, its group taken along
abbrev pub regrouped : Frame → List Operand → List Line → Datum → Frame
regrouped frame entries rest answer = record frame {
  rest = drop (group_length rest) rest;
  registers = put_all (map (member_write frame.registers entries answer) (take (group_length rest) rest)) frame.registers;
}

abbrev pub grouped : State → List Operand → List Line → Datum → State
grouped state entries rest answer = record state { running = regrouped state.running entries rest answer }

-- a frame that waited at a call goes on behind it with the answer
abbrev pub answered_by : Frame → Line → List Line → Datum → Op → Frame
answered_by frame call rest answer (Statepoint id callee types) =
    regrouped frame (drop (length types) call.inst.operands) rest answer
answered_by frame call rest answer _ = record frame { rest = rest; registers = put call.to answer frame.registers }

abbrev pub answered_at : Frame → List Line → Datum → Frame
answered_at frame [] answer = frame
answered_at frame (call ∷ rest) answer = answered_by frame call rest answer call.inst.op

abbrev pub answered : Frame → Datum → Frame
answered frame answer = answered_at frame frame.rest answer

-- the running frame, which waited, goes on with the answer
abbrev pub resumed : State → Datum → State
resumed state answer = record state { running = answered state.running answer }
