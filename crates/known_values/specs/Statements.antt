-- What is proved of known values.
use Rattle.std.specs.Prelude.{◌≡◌, ℕ, ◌<◌, ◌≤◌, ℤ, List, length, drop, Some}
use Rattle.sp_ids.specs.declared.ends.End.{End}
use Rattle.ir_ast.specs.Funcs.{Function}
use Rattle.ir_ast.specs.Objects.{Datum}
use Rattle.ir_cfg.specs.DefiniteUses.{Uses}
use Rattle.object_meaning.specs.BlockLines.{lines_at}
use Rattle.object_meaning.specs.Effects.{Progress}
use Rattle.object_meaning.specs.Jumps.{phi_count}
use Rattle.object_meaning.specs.Outcomes.{opening, proceeds}
use Rattle.object_meaning.specs.Runs.{Reaches}
use Rattle.object_meaning.specs.States.{Frame, State, Setting}
use Rattle.object_meaning.proofs.TaskLists.{Each, EachTask}
use Rattle.base_definite.specs.Comings.{Comes}
use Rattle.known_values.specs.Meanings.{AllHold, AreKnown, Holds, Meaning, Meanings}
use Rattle.known_values.specs.Texts.{RunsText, UsesAreDefined}

-- a frame stands at a place of the text to which a path comes, behind the phis of its block, and there the equations hold
pub record Knows (setting : Setting) (func : Function) (meanings : Meanings) (frame : Frame) : Type 0 where
  pub place : ℕ
  pub stands : frame.rest ≡ drop place (lines_at func frame.block)
  pub comes : Comes func frame.block place
  pub behind_phis : 0 < frame.block → phi_count (lines_at func frame.block) ≤ place
  pub room : setting.registers frame.func ≤ length frame.registers
  pub holds : AllHold func meanings frame.block place frame.registers

-- so does each frame of the function with this number
abbrev pub KnowsAs : Setting → ℕ → Function → Meanings → Frame → Type 0
KnowsAs setting number func meanings frame = frame.func ≡ number → Knows setting func meanings frame

-- of each frame of a state, running or waiting
pub record InEachFrame (P : Frame → Type 0) (state : State) : Type 0 where
  pub running : P state.running
  pub below : Each P state.below
  pub tasks : EachTask P state.tasks

-- in each state that a run comes to, in each frame of a function the equations of its values hold
abbrev pub KnownValuesHold : Type 0
KnownValuesHold = (setting : Setting) (number : ℕ) (func : Function) (meanings : Meanings) → RunsText setting number func
    → AreKnown setting.layouts func meanings → (input : List ℤ) (now : Progress State) → Reaches {E = End} (proceeds setting) (opening setting input) now
    → InEachFrame (KnowsAs setting number func meanings) now.state

-- at each use of a value its equation holds
abbrev pub UsesReadKnownValues : Type 0
UsesReadKnownValues = (func : Function) (meanings : Meanings) → UsesAreDefined func → (registers : List Datum) (line value block place : ℕ)
    → Uses func line value block place → length func.args ≤ value → AllHold func meanings block place registers
    → (meaning : Meaning) → meanings value ≡ Some meaning → Holds value meaning registers
