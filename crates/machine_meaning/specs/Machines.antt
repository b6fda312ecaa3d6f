-- States of the address machine: those of the target meaning, whose registers hold words alone, with stacks of words and a
-- heap of objects that have addresses. A frame that waits stands at its call, in every task.
use Rattle.std.specs.Prelude.{ℕ, ◌-◌, List, [], ◌∷◌, ◌++◌, length, take, drop, map, filter, Option, slice_get, slice_set, slice_index}
use Rattle.ir_ast.specs.declared.types.Ty.{Ty}
use Rattle.ir_ast.specs.declared.ops.Operand.{Operand}
use Rattle.ir_ast.specs.declared.ops.Op.{Op}
use Rattle.ir_ast.specs.declared.ops.Op.TheVariants.{Statepoint, GcRelocate}
use Rattle.ir_ast.specs.Insts.{Instruction}
use Rattle.ir_ast.specs.Objects.{Datum, number}
use Rattle.moving_heap.specs.Heaps.{HeapView}
use Rattle.frame_walk.specs.Maps.{FrameEntry}
use Rattle.frame_forms.specs.FrameSizes.{is_named_integer}
use Rattle.object_meaning.specs.Lines.{Line}
use Rattle.object_meaning.specs.Numbers.{width_of, sign_extended}
use Rattle.object_meaning.specs.Registers.{value, number_in, Write, put, put_all}
use Rattle.object_meaning.specs.States.{Frame, State, Setting}
use Rattle.object_meaning.specs.Effects.{Effect, goes_on, prints, ends}
use Rattle.object_meaning.specs.Frames.{group_length, index_in}
use Rattle.machine_meaning.specs.EventPlaces.{MovePlan}

-- the stack of the running task; those of the others by number, where the running one and those that ended have none. The
-- state's list of objects is empty: the heap has them
pub record Machine : Type 0 where
  pub state : State
  pub stack : List ℕ
  pub stacks : List (List ℕ)
  pub heap : HeapView

-- what a run is of: lines on words, code addresses by function, block and place in the block, the words of each function's
-- frames, the record that the map has at a return address, the map's list of constants, the name of the function that has an
-- instruction at a code address, and the plan's moves
pub record Machinery : Type 0 where
  pub setting : Setting
  pub address : ℕ → ℕ → ℕ → ℕ
  pub frame_words : ℕ → ℕ
  pub found : ℕ → Option FrameEntry
  pub constants : List ℕ
  pub name_at : ℕ → Option (List ℕ)
  pub plan : MovePlan

-- what a line does that touches no pointer and no frame
abbrev pub lifted : Machine → Effect State → Effect Machine
lifted machine (goes_on state) = goes_on (record machine { state = state })
lifted machine (prints word state) = prints word (record machine { state = state })
lifted machine (ends end state) = ends end (record machine { state = state })

-- and what happens besides, where the run goes on
abbrev pub then_on : (Machine → Machine) → Effect Machine → Effect Machine
then_on next (goes_on machine) = goes_on (next machine)
then_on next effect = effect

-- ---- code addresses

-- the lines behind a call, its group taken along
abbrev pub behind : Op → List Line → List Line
behind (Statepoint id callee types) rest = drop (group_length rest) rest
behind op rest = rest

-- the code address behind a call of a frame
abbrev pub address_behind : Machinery → Frame → Line → List Line → ℕ
address_behind machinery frame call rest =
    machinery.address frame.func frame.block
    (length (machinery.setting.lines frame.func frame.block) - length (behind call.inst.op rest))

abbrev pub return_to : Machinery → Frame → List Line → ℕ
return_to machinery frame [] = 0
return_to machinery frame (call ∷ rest) = address_behind machinery frame call rest

-- the return address of the call at which a frame stands
abbrev pub return_address : Machinery → Frame → ℕ
return_address machinery frame = return_to machinery frame frame.rest

-- ---- slots

abbrev pub word_of : State → Operand → ℕ
word_of state operand = number_in (value state.running.registers operand)

-- an integer that a bundle names, sign-extended
abbrev pub bundle_word : State → Ty × Operand → ℕ
bundle_word state entry = sign_extended (width_of entry.0) 64 (word_of state entry.1)

-- what a statepoint with so many arguments keeps in its frame: the live entries, then the integers that its bundle names
abbrev pub kept_words : State → Instruction → ℕ → List ℕ
kept_words state call arguments =
    map (word_of state) (drop arguments call.operands)
    ++ map (bundle_word state) (filter (λ entry. is_named_integer entry.0 entry.1) call.bundle)

abbrev pub over : List ℕ → List ℕ → List ℕ
over words stack = words ++ drop (length words) stack

abbrev pub spilled : Machine → Instruction → ℕ → Machine
spilled machine call arguments = record machine { stack = over (kept_words machine.state call arguments) machine.stack }

-- a result is the callee's answer; a relocate is the present word of its derived slot
abbrev pub slot_value : List ℕ → Datum → Line → Op → Datum
slot_value stack answer member GcRelocate = number (slice_index stack (index_in (slice_get member.inst.operands 2)))
slot_value stack answer member _ = answer

abbrev pub slot_put : List ℕ → Datum → Line → Write
slot_put stack answer member = record { to = member.to; value = slot_value stack answer member member.inst.op }

abbrev pub regrouped_by : List ℕ → Frame → List Line → Datum → Frame
regrouped_by stack frame rest answer = record frame {
  rest = drop (group_length rest) rest;
  registers = put_all (map (slot_put stack answer) (take (group_length rest) rest)) frame.registers;
}

abbrev pub gone_behind : List ℕ → Frame → Line → List Line → Datum → Op → Frame
gone_behind stack frame call rest answer (Statepoint id callee types) = regrouped_by stack frame rest answer
gone_behind stack frame call rest answer op = record frame { rest = rest; registers = put call.to answer frame.registers }

abbrev pub gone_from : List ℕ → Frame → List Line → Datum → Frame
gone_from stack frame [] answer = frame
gone_from stack frame (call ∷ rest) answer = gone_behind stack frame call rest answer call.inst.op

-- the running frame, which stands at a call, goes on behind it with the answer
abbrev pub gone_on : Datum → Machine → Machine
gone_on answer machine = record machine {
  state = record machine.state {
    running = gone_from machine.stack machine.state.running machine.state.running.rest answer;
  };
}

-- ---- all tasks, by number

abbrev pub all_frames : Machine → List (List Frame)
all_frames machine = slice_set machine.state.tasks machine.state.task (machine.state.running ∷ machine.state.below)

abbrev pub all_stacks : Machine → List (List ℕ)
all_stacks machine = slice_set machine.stacks machine.state.task machine.stack
