-- What a run does besides printing, read off its states: its events and its accesses.
use Rattle.std.specs.Prelude.{ℕ, zero, suc, List, [], ◌∷◌, ◌++◌, Result, Ok, Err}
use Rattle.ir_ast.specs.declared.ops.Callee.{Callee}
use Rattle.ir_ast.specs.declared.ops.Callee.TheVariants.{New, Poll}
use Rattle.ir_ast.specs.declared.ops.Op.{Op}
use Rattle.ir_ast.specs.declared.ops.Op.TheVariants.{Load, Store, Call, Statepoint}
use Rattle.sp_ids.specs.declared.ends.Trap.{Trap}
use Rattle.object_meaning.specs.Runs.{Next, Go, End, advance}
use Rattle.object_meaning.specs.Lines.{Line}
use Rattle.object_meaning.specs.States.{State, Setting}
use Rattle.object_meaning.specs.Accesses.{Place}
use Rattle.object_meaning.specs.Steps.{accesses}

pub data Event : Type 0 where
  at_poll : Event
  at_new : Event

-- an access that doesn't trap: an object and an offset in it
pub data Access : Type 0 where
  reads : ℕ → ℕ → Access
  writes : ℕ → ℕ → Access

abbrev pub event_at : Callee → List Event
event_at Poll = at_poll ∷ []
event_at (New layout) = at_new ∷ []
event_at _ = []

abbrev pub event_of : Op → List Event
event_of (Call callee types) = event_at callee
event_of (Statepoint id callee types) = event_at callee
event_of _ = []

abbrev pub reading : Result Place Trap → List Access
reading (Ok place) = reads place.object place.offset ∷ []
reading (Err trap) = []

abbrev pub writing : Result Place Trap → List Access
writing (Ok place) = writes place.object place.offset ∷ []
writing (Err trap) = []

abbrev pub access_of : Setting → State → Line → Op → List Access
access_of setting state line Load = reading (accesses setting state line 0)
access_of setting state line Store = writing (accesses setting state line 1)
access_of setting state line _ = []

-- what the line does at which a state stands
abbrev pub events_at : List Line → List Event
events_at [] = []
events_at (line ∷ rest) = event_of line.inst.op

abbrev pub accesses_at : Setting → State → List Line → List Access
accesses_at setting state [] = []
accesses_at setting state (line ∷ rest) = access_of setting state line line.inst.op

-- what the states of a run's first steps do, in order
abbrev pub done_at : {E A T : Type 0} → (A → List T) → Next E A → List T
done_at did (Go state) = did state
done_at did (End end state) = []

abbrev pub traced : {E A T : Type 0} → (A → List T) → (A → Next E A) → ℕ → Next E A → List T
traced did step zero next = []
traced did step (suc count) next = done_at did next ++ traced did step count (advance step next)
