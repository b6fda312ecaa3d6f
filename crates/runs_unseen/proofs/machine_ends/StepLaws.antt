-- Each step of the machine leads on, or ends the run.
use Rattle.std.proofs.Common.{◌≡◌, ℕ, suc, ◌+◌, ◌<◌, Bool, true, false, List, [], ◌∷◌, length, take, drop, Result, Ok, Err, refl, ap, arith}
use Rattle.std.specs.Prelude.{nat_lt, if◌then◌else◌}
use Rattle.sp_ids.specs.declared.ends.End.TheVariants as ended
use Rattle.sp_ids.specs.declared.ends.Trap.{Trap}
use Rattle.sp_ids.specs.declared.ends.Trap.TheVariants as traps
use Rattle.ir_ast.specs.declared.ops.Op.{Op}
use Rattle.ir_ast.specs.declared.ops.Op.TheVariants as ops
use Rattle.ir_ast.specs.Objects.{Datum}
use Rattle.moving_heap.specs.declared.heap.Deny.{Deny}
use Rattle.moving_heap.specs.Heaps.{loaded}
use Rattle.object_meaning.specs.Computing.{value_of_line}
use Rattle.object_meaning.specs.Effects.{Effect, goes_on, prints, ends}
use Rattle.object_meaning.specs.Jumps.{branch_taken, case_taken, jumped, label_at}
use Rattle.object_meaning.specs.Lines.{Line}
use Rattle.object_meaning.specs.Numbers.{width_of}
use Rattle.object_meaning.specs.Registers.{operand}
use Rattle.object_meaning.specs.States.{State}
use Rattle.object_meaning.specs.Steps.{acts, settled}
use Rattle.machine_meaning.specs.Machines.{Machine, Machinery, spilled}
use Rattle.machine_meaning.specs.MachineSteps.{at, behind_step, loading_word, machine_acts, machine_at, machine_step, returns, storing_word}
use Rattle.runs_unseen.proofs.machine_ends.EffectLaws.{counted, fewer, Leads, Fares, fares_lifted, leads_stepped, under_bound}
use Rattle.runs_unseen.proofs.machine_ends.CallLaws.{CountsOn, counts_returns, fares_calls, fares_denied}

leads_settled : (bound : ℕ) (state : State) (line : Line) (rest : List Line) (result : Result Datum Trap) → length rest < length state.running.rest
    → Leads bound state (settled state line rest result)
leads_settled bound state line rest (Ok result) shorter = fewer refl refl (omega arith)
leads_settled bound state line rest (Err trap) shorter = tt

fares_loading : (bound : ℕ) (machine : Machine) (line : Line) (rest : List Line) (found : Result ℕ Deny) → length rest < length machine.state.running.rest
    → Fares bound machine.state (loading_word machine line rest found)
fares_loading bound machine line rest (Ok word) shorter = fewer refl refl (omega arith)
fares_loading bound machine line rest (Err deny) shorter = fares_denied bound machine.state machine deny

fares_storing : (bound : ℕ) (machine : Machine) (line : Line) (rest : List Line) (word p : ℕ) (found : Result ℕ Deny) → length rest < length machine.state.running.rest
    → Fares bound machine.state (storing_word machine line rest word p found)
fares_storing bound machine line rest word p (Ok old) shorter = fewer refl refl (omega arith)
fares_storing bound machine line rest word p (Err deny) shorter = fares_denied bound machine.state machine deny

fares_counted : (bound : ℕ) (state : State) (effect : Effect Machine) → state.steps < bound → CountsOn (state.steps + 1) effect → Fares bound state effect
fares_counted bound state (goes_on next) under is = counted under is
fares_counted bound state (prints word next) under is = counted under is
fares_counted bound state (ends end last) under final = tt

fares_behind : (bound : ℕ) (machine : Machine) (next : Machine → Effect Machine)
    → CountsOn (machine.state.steps + 1) (next (record machine { state = record machine.state { steps = machine.state.steps + 1 } }))
    → (b : Bool) → nat_lt machine.state.steps bound ≡ b
    → Fares bound machine.state (behind_step machine next (if b then goes_on (record machine.state { steps = machine.state.steps + 1 }) else ends ended.OutOfSteps machine.state))
fares_behind bound machine next counts true is =
    fares_counted bound machine.state (next (record machine { state = record machine.state { steps = machine.state.steps + 1 } })) (under_bound machine.state.steps bound is) counts
fares_behind bound machine next counts false is = tt

module _ (machinery : Machinery) (machine : Machine) (line : Line) (rest : List Line) (shorter : length rest < length machine.state.running.rest) where
  fares_acts : (op : Op) → Fares machinery.setting.bound machine.state (machine_acts machinery machine line rest op)
  fares_acts (ops.Gep elem index_width place) = fewer refl refl (omega arith)
  fares_acts ops.Load = fares_loading machinery.setting.bound machine line rest (loaded machine.heap (at machine line 0)) shorter
  fares_acts ops.Store =
      fares_storing machinery.setting.bound machine line rest (at machine line 0) (at machine line 1) (loaded machine.heap (at machine line 1)) shorter
  fares_acts (ops.Call callee types) = fares_calls machinery machine line rest callee line.inst.operands
  fares_acts (ops.Statepoint id callee types) =
      fares_calls machinery (spilled machine line.inst (length types)) line rest callee (take (length types) line.inst.operands)
  fares_acts ops.Ret =
      fares_behind machinery.setting.bound machine
      (λ now. returns machinery now (width_of line.inst.ty) (operand now.state.running.registers line.inst.operands 0) now.state.below)
      (counts_returns machinery (record machine { state = record machine.state { steps = machine.state.steps + 1 } }) (width_of line.inst.ty)
      (operand machine.state.running.registers line.inst.operands 0) machine.state.below)
      (nat_lt machine.state.steps machinery.setting.bound) refl
  fares_acts ops.Phi = fewer refl refl (omega arith)
  fares_acts ops.GcResult = fewer refl refl (omega arith)
  fares_acts ops.GcRelocate = fewer refl refl (omega arith)
  fares_acts ops.Br =
      fares_lifted machinery.setting.bound machine.state machine (acts machinery.setting machine.state line rest ops.Br)
      (leads_stepped machinery.setting machine.state (jumped machinery.setting (label_at line.inst.labels 0)) refl)
  fares_acts ops.CondBr =
      fares_lifted machinery.setting.bound machine.state machine (acts machinery.setting machine.state line rest ops.CondBr)
      (leads_stepped machinery.setting machine.state
      (jumped machinery.setting (label_at line.inst.labels (branch_taken (operand machine.state.running.registers line.inst.operands 0)))) refl)
  fares_acts ops.Switch =
      fares_lifted machinery.setting.bound machine.state machine (acts machinery.setting machine.state line rest ops.Switch)
      (leads_stepped machinery.setting machine.state
      (jumped machinery.setting (label_at line.inst.labels (case_taken (operand machine.state.running.registers line.inst.operands 0) (drop 1 line.inst.operands)))) refl)
  fares_acts ops.Unreachable =
      fares_lifted machinery.setting.bound machine.state machine (acts machinery.setting machine.state line rest ops.Unreachable)
      (leads_stepped machinery.setting machine.state (ends (ended.Trap traps.Unreachable)) tt)
  fares_acts op =
      fares_lifted machinery.setting.bound machine.state machine (acts machinery.setting machine.state line rest op)
      (leads_settled machinery.setting.bound machine.state line rest
      (value_of_line machinery.setting.layouts machine.state.running.registers op line.inst.ty line.inst.operands) shorter)

fares_at : (machinery : Machinery) (machine : Machine) (lines : List Line) → machine.state.running.rest ≡ lines
    → Fares machinery.setting.bound machine.state (machine_at machinery machine lines)
fares_at machinery machine [] is = tt
fares_at machinery machine (line ∷ rest) is =
    let all : length machine.state.running.rest ≡ length (line ∷ rest) = ap length is in
    let more : length (line ∷ rest) ≡ suc (length rest) = refl in
    fares_acts machinery machine line rest (omega arith) line.inst.op

pub fares : (machinery : Machinery) (machine : Machine) → Fares machinery.setting.bound machine.state (machine_step machinery machine)
unfolding machine_step
fares machinery machine = fares_at machinery machine machine.state.running.rest refl

-- in a frame without lines the next step ends the run
pub step_at_end : (machinery : Machinery) (machine : Machine) → machine.state.running.rest ≡ [] → machine_step machinery machine ≡ ends (ended.Trap traps.Unreachable) machine
unfolding machine_step
step_at_end machinery machine is = ap (machine_at machinery machine) is
