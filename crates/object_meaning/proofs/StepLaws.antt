-- The step at the line where a state stands.
use Rattle.std.proofs.Common.{◌≡◌, List, [], ◌∷◌, ap}
use Rattle.sp_ids.specs.declared.ends.End.TheVariants.{Trap}
use Rattle.sp_ids.specs.declared.ends.Trap.TheVariants.{Unreachable}
use Rattle.object_meaning.specs.Lines.{Line}
use Rattle.object_meaning.specs.States.{State, Setting}
use Rattle.object_meaning.specs.Effects.{ends}
use Rattle.object_meaning.specs.Steps.{step, steps_at, acts}

-- the step at a line
pub step_is : (setting : Setting) (state : State) (line : Line) (rest : List Line) → state.running.rest ≡ line ∷ rest
    → step setting state ≡ acts setting state line rest line.inst.op
unfolding step
step_is setting state line rest e = ap (steps_at setting state) e

pub step_at_end : (setting : Setting) (state : State) → state.running.rest ≡ [] → step setting state ≡ ends (Trap Unreachable) state
unfolding step
step_at_end setting state e = ap (steps_at setting state) e
