-- The step of the address machine. A line that touches no pointer and no frame does what it does in the target meaning.
use Rattle.std.specs.Prelude.{ℕ, ◌+◌, ◌*◌, ◌%◌, ◌^◌, ◌==◌, ◌&&◌, List, [], ◌∷◌, length, take, drop, map, Option, slice_get, Result, Ok, Err}
use Rattle.std.specs.Int.{w64, cast_unsigned}
use Rattle.sp_ids.specs.declared.ends.End.TheVariants.{Trap, Poison}
use Rattle.sp_ids.specs.declared.ends.Trap.TheVariants.{Null, Bounds, Kind, Unreachable as Executed}
use Rattle.sp_ids.specs.Numbers.{signed}
use Rattle.ir_ast.specs.declared.types.Ty.TheVariants.{Int}
use Rattle.ir_ast.specs.declared.ops.Callee.{Callee}
use Rattle.ir_ast.specs.declared.ops.Callee.TheVariants.{Fun, New, TaskStart, Poll, Check, Same}
use Rattle.ir_ast.specs.declared.ops.Elem.{Elem}
use Rattle.ir_ast.specs.declared.ops.Operand.{Operand}
use Rattle.ir_ast.specs.declared.ops.Op.{Op}
use Rattle.ir_ast.specs.declared.ops.Op.TheVariants.{Gep, Load, Store, Call, Statepoint, Ret}
use Rattle.ir_ast.specs.Layouts.{ObjectLayout}
use Rattle.ir_ast.specs.Sizes.{fields_in}
use Rattle.ir_ast.specs.Objects.{Datum, number}
use Rattle.moving_heap.specs.declared.heap.Deny.{Deny}
use Rattle.moving_heap.specs.declared.heap.Deny.TheVariants as denies
use Rattle.moving_heap.specs.Places.{owner}
use Rattle.moving_heap.specs.Heaps.{checked, loaded, stored_at}
use Rattle.object_meaning.specs.Lines.{Line}
use Rattle.object_meaning.specs.Numbers.{width_of}
use Rattle.object_meaning.specs.Registers.{nothing, value, operand, number_in}
use Rattle.object_meaning.specs.Comparisons.{bit}
use Rattle.object_meaning.specs.Computing.{element_bytes, field_bytes}
use Rattle.object_meaning.specs.Accesses.{cell_named}
use Rattle.object_meaning.specs.States.{Frame, State}
use Rattle.object_meaning.specs.Effects.{Effect, goes_on, ends}
use Rattle.object_meaning.specs.Frames.{passed}
use Rattle.object_meaning.specs.Calls.{stepped, entering, function_in, called}
use Rattle.object_meaning.specs.Steps.{acts}
use Rattle.machine_meaning.specs.Machines.{Machine, Machinery, lifted, then_on, address_behind, spilled, gone_on}
use Rattle.machine_meaning.specs.Moving.{eventful}
use Rattle.machine_meaning.specs.MachineTasks.{polled_machine, allocating_machine, pushed, started_machine, ended_machine}

-- the running frame goes on behind a line with this word
abbrev pub passes : Machine → Line → List Line → ℕ → Machine
passes machine line rest word = record machine { state = passed machine.state line rest (number word) }

-- the word of an operand of a line
abbrev pub at : Machine → Line → ℕ → ℕ
at machine line place = number_in (operand machine.state.running.registers line.inst.operands place)

-- `getelementptr` adds to the word, modulo 2^64
abbrev pub stepped_word : List ObjectLayout → Elem → ℕ → Option ℕ → ℕ → ℕ → ℕ
stepped_word layouts elem index_width place from index =
    (from + (cast_unsigned w64 (signed index_width index) * element_bytes layouts elem + field_bytes layouts elem place)) % 2 ^ 64

-- ---- accesses

abbrev pub denied : Machine → Deny → Effect Machine
denied machine denies.Null = ends (Trap Null) machine
denied machine denies.Bounds = ends (Trap Bounds) machine
denied machine denies.Kind = ends (Trap Kind) machine
denied machine denies.Poison = ends Poison machine

abbrev pub loading_word : Machine → Line → List Line → Result ℕ Deny → Effect Machine
loading_word machine line rest (Ok word) = goes_on (passes machine line rest word)
loading_word machine line rest (Err deny) = denied machine deny

abbrev pub storing_word : Machine → Line → List Line → ℕ → ℕ → Result ℕ Deny → Effect Machine
storing_word machine line rest word p (Ok old) =
    goes_on (record (passes machine line rest 0) {
      heap = record machine.heap { contents = stored_at machine.heap.contents p word (owner machine.heap.stands p) };
    })
storing_word machine line rest word p (Err deny) = denied machine deny

abbrev pub checking : Machine → Result (Unit {0}) Deny → Effect Machine
checking machine (Ok done) = goes_on (gone_on nothing machine)
checking machine (Err deny) = denied machine deny

-- ---- calls

-- a call with these arguments; the machine stands at it, with its live entries in their slots
abbrev pub calls : Machinery → Machine → Line → List Line → Callee → List Operand → Effect Machine
calls machinery machine line rest (Fun func) operands =
    then_on (pushed machinery func.0 (address_behind machinery machine.state.running line rest))
    (lifted machine (stepped machinery.setting machine.state
    (entering machinery.setting func.0 (map (value machine.state.running.registers) operands))))
calls machinery machine line rest (New layout) operands =
    eventful machinery machine (λ now. allocating_machine now layout (fields_in machinery.setting.layouts layout)
    (signed 64 (number_in (operand now.state.running.registers operands 0))))
calls machinery machine line rest Poll operands =
    eventful machinery machine (λ now. goes_on (polled_machine machinery now))
calls machinery machine line rest TaskStart operands =
    started_machine machinery machine (function_in (slice_get operands 0)) (operand machine.state.running.registers operands 1)
calls machinery machine line rest Check operands =
    checking machine (checked machine.heap (at machine line 0) (at machine line 1) (cell_named (at machine line 2)))
calls machinery machine line rest Same operands =
    goes_on (gone_on (number (bit ((at machine line 0 == at machine line 2) && (at machine line 1 == at machine line 3)))) machine)
calls machinery machine line rest callee operands =
    lifted machine (called machinery.setting machine.state (λ answer. (gone_on answer machine).state) callee operands)

-- `ret`: the frame's words leave the stack; the frame below goes on with the answer, or the task ends
abbrev pub returns : Machinery → Machine → ℕ → Datum → List Frame → Effect Machine
returns machinery machine width answer [] = ended_machine machine width answer
returns machinery machine width answer (caller ∷ below) =
    goes_on (gone_on answer (record machine {
      state = record machine.state { running = caller; below = below };
      stack = drop (machinery.frame_words machine.state.running.func + 1) machine.stack;
    }))

-- a terminator takes its step first
abbrev pub behind_step : Machine → (Machine → Effect Machine) → Effect State → Effect Machine
behind_step machine next (goes_on state) = next (record machine { state = state })
behind_step machine next effect = lifted machine effect

-- ---- lines

-- a line with this operator; the machine stands at it, and the rest follows it
abbrev pub machine_acts : Machinery → Machine → Line → List Line → Op → Effect Machine
machine_acts machinery machine line rest (Gep elem index_width place) =
    goes_on (passes machine line rest
    (stepped_word machinery.setting.layouts elem (width_of (Int index_width)) place (at machine line 0) (at machine line 1)))
machine_acts machinery machine line rest Load = loading_word machine line rest (loaded machine.heap (at machine line 0))
machine_acts machinery machine line rest Store =
    storing_word machine line rest (at machine line 0) (at machine line 1) (loaded machine.heap (at machine line 1))
machine_acts machinery machine line rest (Call callee types) = calls machinery machine line rest callee line.inst.operands
machine_acts machinery machine line rest (Statepoint id callee types) =
    calls machinery (spilled machine line.inst (length types)) line rest callee (take (length types) line.inst.operands)
machine_acts machinery machine line rest Ret =
    behind_step machine
    (λ now. returns machinery now (width_of line.inst.ty) (operand now.state.running.registers line.inst.operands 0) now.state.below)
    (stepped machinery.setting machine.state goes_on)
machine_acts machinery machine line rest op = lifted machine (acts machinery.setting machine.state line rest op)

-- the step of the running frame at these lines; every block ends at a terminator, so there is one
abbrev pub machine_at : Machinery → Machine → List Line → Effect Machine
machine_at machinery machine [] = ends (Trap Executed) machine
machine_at machinery machine (line ∷ rest) = machine_acts machinery machine line rest line.inst.op

unfoldable pub machine_step : Machinery → Machine → Effect Machine
machine_step machinery machine = machine_at machinery machine machine.state.running.rest
