-- The step of the running task, by cases: one line is executed.
use Rattle.std.specs.Prelude.{ℕ, List, [], ◌∷◌, length, take, drop, Result, Ok, Err}
use Rattle.sp_ids.specs.declared.ends.End.TheVariants.{Trap as Trapped}
use Rattle.sp_ids.specs.declared.ends.Trap.{Trap}
use Rattle.sp_ids.specs.declared.ends.Trap.TheVariants.{Unreachable as Executed}
use Rattle.ir_ast.specs.declared.ops.Op.{Op}
use Rattle.ir_ast.specs.declared.ops.Op.TheVariants.{Phi, Load, Store, Call, Statepoint, GcResult, GcRelocate, Br, CondBr, Switch, Ret, Unreachable}
use Rattle.ir_ast.specs.Objects.{Datum}
use Rattle.object_meaning.specs.Lines.{Line}
use Rattle.object_meaning.specs.Numbers.{width_of}
use Rattle.object_meaning.specs.Registers.{nothing, operand, pointer_in}
use Rattle.object_meaning.specs.Computing.{value_of_line}
use Rattle.object_meaning.specs.Accesses.{Place, accessed, cell_of, loaded, stored}
use Rattle.object_meaning.specs.States.{Frame, State, Setting}
use Rattle.object_meaning.specs.Effects.{Effect, goes_on, ends}
use Rattle.object_meaning.specs.Frames.{passed, grouped, resumed}
use Rattle.object_meaning.specs.Tasks.{task_ended}
use Rattle.object_meaning.specs.Calls.{stepped, called}
use Rattle.object_meaning.specs.Jumps.{jumped, label_at, branch_taken, case_taken}

-- a line that computes goes on with its value, or traps
abbrev pub settled : State → Line → List Line → Result Datum Trap → Effect State
settled state line rest (Ok result) = goes_on (passed state line rest result)
settled state line rest (Err trap) = ends (Trapped trap) state

abbrev pub loading : State → Line → List Line → Result Place Trap → Effect State
loading state line rest (Ok place) = goes_on (passed state line rest (loaded state.objects place))
loading state line rest (Err trap) = ends (Trapped trap) state

abbrev pub storing : State → Line → List Line → Datum → Result Place Trap → Effect State
storing state line rest datum (Ok place) =
    goes_on (record (passed state line rest nothing) { objects = stored state.objects place datum })
storing state line rest datum (Err trap) = ends (Trapped trap) state

-- `ret`: the frame below goes on with the answer, or the task ends
abbrev pub returned : ℕ → Datum → List Frame → State → Effect State
returned width answer [] state = task_ended state width answer
returned width answer (caller ∷ below) state =
    goes_on (resumed (record state { running = caller; below = below }) answer)

-- the cell that a line's pointer names
abbrev pub accesses : Setting → State → Line → ℕ → Result Place Trap
accesses setting state line place =
    accessed setting.layouts state.objects (cell_of line.inst.ty)
    (pointer_in (operand state.running.registers line.inst.operands place))

-- a line that takes effect elsewhere
abbrev pub skipped : State → List Line → Effect State
skipped state rest = goes_on (record state { running = record state.running { rest = rest } })

-- a line with this operator; the state stands at it, and the rest follows it
abbrev pub acts : Setting → State → Line → List Line → Op → Effect State
acts setting state line rest Load = loading state line rest (accesses setting state line 0)
acts setting state line rest Store =
    storing state line rest (operand state.running.registers line.inst.operands 0) (accesses setting state line 1)
acts setting state line rest (Call callee types) = called setting state (passed state line rest) callee line.inst.operands
acts setting state line rest (Statepoint id callee types) =
    called setting state (grouped state (drop (length types) line.inst.operands) rest) callee (take (length types) line.inst.operands)
-- phis took effect at the jump, and a group's members with their statepoint
acts setting state line rest Phi = skipped state rest
acts setting state line rest GcResult = skipped state rest
acts setting state line rest GcRelocate = skipped state rest
acts setting state line rest Br = stepped setting state (jumped setting (label_at line.inst.labels 0))
acts setting state line rest CondBr =
    stepped setting state
    (jumped setting (label_at line.inst.labels (branch_taken (operand state.running.registers line.inst.operands 0))))
acts setting state line rest Switch =
    stepped setting state
    (jumped setting (label_at line.inst.labels
    (case_taken (operand state.running.registers line.inst.operands 0) (drop 1 line.inst.operands))))
acts setting state line rest Ret =
    stepped setting state
    (returned (width_of line.inst.ty) (operand state.running.registers line.inst.operands 0) state.below)
acts setting state line rest Unreachable = stepped setting state (ends (Trapped Executed))
acts setting state line rest op =
    settled state line rest
    (value_of_line setting.layouts state.running.registers op line.inst.ty line.inst.operands)

-- the step of the running frame at these lines; every block ends at a terminator, so there is one
abbrev pub steps_at : Setting → State → List Line → Effect State
steps_at setting state [] = ends (Trapped Executed) state
steps_at setting state (line ∷ rest) = acts setting state line rest line.inst.op

unfoldable pub step : Setting → State → Effect State
step setting state = steps_at setting state state.running.rest
