-- What a straight part does in a run: as many steps of the meaning as it has lines.
use Rattle.std.specs.Prelude.{◌≡◌, ℕ, List, Result, Ok, Err}
use Rattle.sp_ids.specs.declared.ends.End.{End}
use Rattle.sp_ids.specs.declared.ends.End.TheVariants.{Trap as Trapped}
use Rattle.sp_ids.specs.declared.ends.Trap.{Trap}
use Rattle.object_meaning.specs.Lines.{Line}
use Rattle.object_meaning.specs.Runs.{Reaches}
use Rattle.object_meaning.specs.States.{State, Setting}
use Rattle.object_meaning.specs.Effects.{Effect, goes_on, ends}
use Rattle.object_meaning.specs.Steps.{step}
use Rattle.object_meaning.specs.Outcomes.{proceeds}
use Rattle.flat_code.specs.Flats.{Held}

-- what lines work on in a state, and the state behind them
abbrev pub held_of : State → Held
held_of state = record { registers = state.running.registers; objects = state.objects }

abbrev pub stood : State → List Line → Held → State
stood state rest held = record state {
  running = record state.running { rest = rest; registers = held.registers };
  objects = held.objects;
}

abbrev pub held_effect : State → List Line → Result Held Trap → Effect State
held_effect state rest (Ok held) = goes_on (stood state rest held)
held_effect state rest (Err trap) = ends (Trapped trap) state

-- the run comes from a state to another, and prints nothing on the way
pub record Passes (setting : Setting) (start now : State) : Type 0 where
  pub by : (lines : List (List ℕ)) → Reaches {E = End} (proceeds setting) (record { state = start; lines = lines }) (record { state = now; lines = lines })

-- states of the same function with the same frames below, steps and events
pub record IsAlike (one other : State) : Type 0 where
  pub func : one.running.func ≡ other.running.func
  pub below : one.below ≡ other.below
  pub steps : one.steps ≡ other.steps
  pub events : one.events ≡ other.events

-- the run comes from a state to one like it, whose step traps
pub record TrapsAt (setting : Setting) (start : State) (trap : Trap) : Type 0 where
  pub last : State
  pub passes : Passes setting start last
  pub ends_so : step setting last ≡ ends (Trapped trap) last
  pub alike : IsAlike last start
