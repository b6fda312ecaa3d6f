-- Jumps, calls, returns and tasks: what the executor does is what the machine does.
use Rattle.std.proofs.Common.{◌≡◌, ℕ, ℤ, ◌+◌, ◌<◌, ◌≤◌, List, [], ◌∷◌, ◌++◌, length, map, set, drop, refl, sym, ap, ◌∙◌, lt-ltb}
use Rattle.std.proofs.lemmas.Bool.{le-ltb}
use Rattle.std.specs.Prelude.{Some, None, slice_get}
use Rattle.std.specs.Int.{w64, cast_unsigned}
use Rattle.sp_ids.specs.declared.ends.End.TheVariants.{Trap, OutOfSteps}
use Rattle.sp_ids.specs.declared.ends.Trap.TheVariants.{Unreachable, Depth, Input, Tasks}
use Rattle.ir_ast.specs.declared.ops.Callee.TheVariants.{Fun, Print, Read}
use Rattle.ir_ast.specs.declared.ops.Op.TheVariants.{Ret}
use Rattle.ir_ast.specs.declared.ops.Operand.{Operand}
use Rattle.ir_ast.specs.Objects.{Datum, number}
use Rattle.object_meaning.specs.Calls.{stepped, entering, taking}
use Rattle.object_meaning.specs.Effects.{Effect, goes_on, prints, ends}
use Rattle.object_meaning.specs.Frames.{entered}
use Rattle.object_meaning.specs.Jumps.{arrived, jumped}
use Rattle.object_meaning.specs.Lines.{Line}
use Rattle.object_meaning.specs.Numbers.{width_of}
use Rattle.object_meaning.specs.Registers.{value, operand, nothing, number_in}
use Rattle.object_meaning.specs.States.{Frame, State, Setting}
use Rattle.machine_meaning.specs.Machines.{Machine, Machinery, lifted, then_on, address_behind, gone_from, gone_on}
use Rattle.machine_meaning.specs.MachineTasks.{new_frame, pushed, started_machine}
use Rattle.machine_meaning.specs.MachineSteps.{calls, machine_acts, returns, behind_step}
use Rattle.run_tasks.proofs.StepLemmas.{out_of_steps, step_left}

-- ---- jumps

pub jump_goes : (setting : Setting) (machine : Machine) (block : ℕ) (frame : Frame) → machine.state.steps < setting.bound
    → frame ≡ arrived machine.state.running block (setting.lines machine.state.running.func block)
    → goes_on (record machine { state = record machine.state { running = frame; steps = machine.state.steps + 1 } })
    ≡ lifted machine (stepped setting machine.state (jumped setting block))
jump_goes setting machine block frame left is =
    ap (λ (f : Frame). goes_on (record machine { state = record machine.state { running = f; steps = machine.state.steps + 1 } })) is
    ∙ ap (lifted machine) (step_left setting machine.state (jumped setting block) left)

-- ---- calls

pub enter_goes : (machinery : Machinery) (machine : Machine) (line : Line) (rest : List Line) (func : ℕ) (operands : List Operand) (arguments : List Datum) (frame : Frame) (below : List Frame) (address : ℕ) (stack : List ℕ)
    → machine.state.steps < machinery.setting.bound → length machine.state.below + 1 < 4096
    → arguments ≡ map (value machine.state.running.registers) operands → frame ≡ entered machinery.setting func arguments → below ≡ machine.state.running ∷ machine.state.below
    → address_behind machinery machine.state.running line rest ≡ address → stack ≡ new_frame machinery func address ++ machine.stack
    → goes_on (record machine { state = record machine.state { running = frame; below = below; steps = machine.state.steps + 1 }; stack = stack })
    ≡ calls machinery machine line rest (Fun (record { 0 = func })) operands
enter_goes machinery machine line rest func operands arguments frame below address stack left few arguments_are frame_is below_is address_is stack_is =
    let setting = machinery.setting in let state = machine.state in let waits = state.running ∷ state.below in
    let all = map (value state.running.registers) operands in
    let fits = lt-ltb (length state.below + 1) 4096 few in
    let enters : goes_on (record state { running = entered setting func all; below = waits; steps = state.steps + 1 }) ≡ entering setting func all (record state { steps = state.steps + 1 }) = rw fits refl in
    let whole : Frame → List Frame → List ℕ → Effect Machine = λ f b words. goes_on (record machine { state = record state { running = f; below = b; steps = state.steps + 1 }; stack = words }) in
    ap (λ (f : Frame). whole f below stack) (frame_is ∙ ap (entered setting func) arguments_are)
    ∙ ap (λ (b : List Frame). whole (entered setting func all) b stack) below_is
    ∙ ap (λ (words : List ℕ). whole (entered setting func all) waits words) (stack_is ∙ ap (λ (a : ℕ). new_frame machinery func a ++ machine.stack) (sym address_is))
    ∙ ap (λ (effect : Effect State). then_on (pushed machinery func (address_behind machinery state.running line rest)) (lifted machine effect)) (enters ∙ step_left setting state (entering setting func all) left)

pub enter_out : (machinery : Machinery) (machine : Machine) (line : Line) (rest : List Line) (func : ℕ) (operands : List Operand) → machinery.setting.bound ≤ machine.state.steps
    → ends OutOfSteps machine ≡ calls machinery machine line rest (Fun (record { 0 = func })) operands
enter_out machinery machine line rest func operands over =
    ap (λ (effect : Effect State). then_on (pushed machinery func (address_behind machinery machine.state.running line rest)) (lifted machine effect))
    (out_of_steps machinery.setting machine.state (entering machinery.setting func (map (value machine.state.running.registers) operands)) over)

pub enter_deep : (machinery : Machinery) (machine : Machine) (line : Line) (rest : List Line) (func : ℕ) (operands : List Operand) → machine.state.steps < machinery.setting.bound
    → 4096 ≤ length machine.state.below + 1
    → ends (Trap Depth) (record machine { state = record machine.state { steps = machine.state.steps + 1 } }) ≡ calls machinery machine line rest (Fun (record { 0 = func })) operands
enter_deep machinery machine line rest func operands left many =
    let setting = machinery.setting in let state = machine.state in let all = map (value state.running.registers) operands in
    let full = le-ltb (length state.below + 1) 4096 many in
    let stops : ends (Trap Depth) (record state { steps = state.steps + 1 }) ≡ entering setting func all (record state { steps = state.steps + 1 }) = rw full refl in
    ap (λ (effect : Effect State). then_on (pushed machinery func (address_behind machinery state.running line rest)) (lifted machine effect)) (stops ∙ step_left setting state (entering setting func all) left)

pub start_full : (machinery : Machinery) (machine : Machine) (func : ℕ) (argument : Datum) → 64 ≤ length machine.state.tasks
    → ends (Trap Tasks) machine ≡ started_machine machinery machine func argument
start_full machinery machine func argument many = let full = le-ltb (length machine.state.tasks) 64 many in rw full refl

pub start_goes : (machinery : Machinery) (machine : Machine) (func : ℕ) (argument : Datum) (frame : Frame) (stack : List ℕ) → length machine.state.tasks < 64
    → frame ≡ entered machinery.setting func (argument ∷ []) → stack ≡ new_frame machinery func 0
    → goes_on (record machine {
      state = record machine.state {
        running = frame;
        below = [];
        task = length machine.state.tasks;
        tasks = set machine.state.tasks machine.state.task (machine.state.running ∷ machine.state.below) ++ [] ∷ [];
      };
      stack = stack;
      stacks = set machine.stacks machine.state.task machine.stack ++ [] ∷ [];
    }) ≡ started_machine machinery machine func argument
start_goes machinery machine func argument frame stack few frame_is stack_is =
    let fits = lt-ltb (length machine.state.tasks) 64 few in
    rw (frame_is, stack_is, fits) refl

-- ---- returns

pub ret_out : (machinery : Machinery) (machine : Machine) (line : Line) (rest : List Line) → machinery.setting.bound ≤ machine.state.steps
    → ends OutOfSteps machine ≡ machine_acts machinery machine line rest Ret
ret_out machinery machine line rest over =
    ap (behind_step machine (λ now. returns machinery now (width_of line.inst.ty) (operand now.state.running.registers line.inst.operands 0) now.state.below))
    (out_of_steps machinery.setting machine.state goes_on over)

pub ret_step : (machinery : Machinery) (machine : Machine) (line : Line) (rest : List Line) (answer : ℕ) (below : List Frame) → machine.state.steps < machinery.setting.bound
    → operand machine.state.running.registers line.inst.operands 0 ≡ number answer → machine.state.below ≡ below
    → returns machinery (record machine { state = record machine.state { steps = machine.state.steps + 1 } }) (width_of line.inst.ty) (number answer) below
    ≡ machine_acts machinery machine line rest Ret
ret_step machinery machine line rest answer below left is below_is =
    let more = record machine { state = record machine.state { steps = machine.state.steps + 1 } } in
    ap (λ (b : List Frame). returns machinery more (width_of line.inst.ty) (number answer) b) (sym below_is)
    ∙ ap (λ (d : Datum). returns machinery more (width_of line.inst.ty) d machine.state.below) (sym is)
    ∙ ap (behind_step machine (λ now. returns machinery now (width_of line.inst.ty) (operand now.state.running.registers line.inst.operands 0) now.state.below))
    (step_left machinery.setting machine.state goes_on left)
