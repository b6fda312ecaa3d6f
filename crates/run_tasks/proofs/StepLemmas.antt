-- Steps that count.
use Rattle.std.proofs.Common.{◌≡◌, ◌+◌, ◌<◌, ◌≤◌, refl, lt-ltb}
use Rattle.std.proofs.lemmas.Bool.{le-ltb}
use Rattle.sp_ids.specs.declared.ends.End.TheVariants.{OutOfSteps}
use Rattle.object_meaning.specs.Calls.{stepped}
use Rattle.object_meaning.specs.Effects.{Effect, ends}
use Rattle.object_meaning.specs.States.{State, Setting}

pub out_of_steps : (setting : Setting) (state : State) (next : State → Effect State) → setting.bound ≤ state.steps → ends OutOfSteps state ≡ stepped setting state next
out_of_steps setting state next le = let none = le-ltb state.steps setting.bound le in rw none refl

pub step_left : (setting : Setting) (state : State) (next : State → Effect State) → state.steps < setting.bound
    → next (record state { steps = state.steps + 1 }) ≡ stepped setting state next
step_left setting state next lt = let some = lt-ltb state.steps setting.bound lt in rw some refl
