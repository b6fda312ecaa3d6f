-- Calls: of defined functions and of the runtime's externals.
use Rattle.std.specs.Prelude.{ℕ, ◌+◌, nat_lt, if◌then◌else◌, int_lt, pos, ℤ, List, [], ◌∷◌, ◌++◌, length, map, Option, Some, slice_get, unsigned_abs, Result, Ok, Err}
use Rattle.std.specs.List.{sum_by}
use Rattle.std.specs.Int.{w64, cast_unsigned}
use Rattle.sp_ids.specs.declared.ends.End.TheVariants.{Trap, OutOfSteps}
use Rattle.sp_ids.specs.declared.ends.Trap.{Trap as Kind}
use Rattle.sp_ids.specs.declared.ends.Trap.TheVariants.{Count, Full, Input, Depth}
use Rattle.sp_ids.specs.Numbers.{signed}
use Rattle.ir_ast.specs.declared.ops.Operand.{Operand}
use Rattle.ir_ast.specs.declared.ops.Operand.TheVariants.{Fun as Named}
use Rattle.ir_ast.specs.declared.ops.Callee.{Callee}
use Rattle.ir_ast.specs.declared.ops.Callee.TheVariants.{Fun, New, Print, Read, TaskStart, Poll, Check, Same}
use Rattle.ir_ast.specs.Layouts.{ObjectLayout}
use Rattle.ir_ast.specs.Sizes.{fields_in}
use Rattle.ir_ast.specs.Objects.{Datum, number, pointer, Object, new_object, footprint}
use Rattle.object_meaning.specs.Comparisons.{bit, same_pointer}
use Rattle.object_meaning.specs.Registers.{nothing, value, operand, number_in, pointer_in}
use Rattle.object_meaning.specs.Accesses.{Place, accessed, cell_named}
use Rattle.object_meaning.specs.States.{State, Setting}
use Rattle.object_meaning.specs.Effects.{Effect, goes_on, prints, ends}
use Rattle.object_meaning.specs.Frames.{entered}
use Rattle.object_meaning.specs.Tasks.{with_event, polled, started}

-- a step is a terminator or a call of a defined function: where so many were taken, the next isn't executed
abbrev pub stepped : Setting → State → (State → Effect State) → Effect State
stepped setting state next =
    if nat_lt state.steps setting.bound then next (record state { steps = state.steps + 1 }) else ends OutOfSteps state

-- the call of a defined function takes its step first; a task has at most 4,096 frames
abbrev pub entering : Setting → ℕ → List Datum → State → Effect State
entering setting func arguments state =
    if nat_lt (length state.below + 1) 4096
    then goes_on (record state { running = entered setting func arguments; below = state.running ∷ state.below })
    else ends (Trap Depth) state

abbrev pub made : List ObjectLayout → ℕ → ℕ → Object
made layouts layout count = new_object layout (fields_in layouts layout) count

-- the footprints of all objects together are at most 67,108,864 bytes; `done` is the state that has the call's answer
abbrev pub allocated : Setting → State → (Datum → State) → Object → Effect State
allocated setting state done object =
    if nat_lt 67108864 (sum_by (footprint setting.layouts) (state.objects ++ object ∷ []))
    then ends (Trap Full) (with_event state)
    else goes_on (record (with_event (done (pointer (record { object = length state.objects + 1; offset = 0 })))) {
      objects = state.objects ++ object ∷ [];
    })

-- a new object is an event, whose `go` line does nothing
abbrev pub allocating : Setting → State → (Datum → State) → ℕ → ℤ → Effect State
allocating setting state done layout count =
    if int_lt count (pos 0) then ends (Trap Count) (with_event state)
    else allocated setting state done (made setting.layouts layout (unsigned_abs count))

abbrev pub taking : State → (Datum → State) → List ℤ → Effect State
taking state done [] = ends (Trap Input) state
taking state done (first ∷ rest) = goes_on (record (done (number (cast_unsigned w64 first))) { input = rest })

abbrev pub function_in : Option Operand → ℕ
function_in (Some (Named func)) = func.0
function_in _ = 0

abbrev pub checked : State → (Datum → State) → Result Place Kind → Effect State
checked state done (Ok place) = goes_on (done nothing)
checked state done (Err trap) = ends (Trap trap) state

-- a call with these arguments, at which the state stands; `done` is the state that has its answer
abbrev pub called : Setting → State → (Datum → State) → Callee → List Operand → Effect State
called setting state done (Fun func) operands =
    stepped setting state (entering setting func.0 (map (value state.running.registers) operands))
called setting state done (New layout) operands =
    allocating setting state done layout (signed 64 (number_in (operand state.running.registers operands 0)))
called setting state done Print operands = prints (number_in (operand state.running.registers operands 0)) (done nothing)
called setting state done Read operands = taking state done state.input
called setting state done TaskStart operands =
    started setting state (function_in (slice_get operands 0)) (operand state.running.registers operands 1)
called setting state done Poll operands = goes_on (polled setting state)
called setting state done Check operands =
    checked state done (accessed setting.layouts state.objects
    (cell_named (number_in (operand state.running.registers operands 2))) (pointer_in (operand state.running.registers operands 1)))
called setting state done Same operands =
    goes_on (done (number (bit (same_pointer
    (pointer_in (operand state.running.registers operands 1)) (pointer_in (operand state.running.registers operands 3))))))
