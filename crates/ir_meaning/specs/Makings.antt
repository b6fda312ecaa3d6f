-- What the interpreter answers of the objects that a run makes.
use Rattle.std.specs.Prelude.{◌≡◌, ℕ, ◌+◌, ◌-◌, ◌^◌, min, nat_lt, if◌then◌else◌, ℤ, List, [], ◌∷◌, Option}
use Rattle.ir_ast.specs.Modules.{ModuleContent}
use Rattle.made_objects.specs.declared.makes.Made.{Made}
use Rattle.made_objects.specs.Makings.{makings}
use Rattle.made_objects.specs.Runs.{HasMade, MakesAll}
use Rattle.object_meaning.specs.Effects.{Progress, line_count}
use Rattle.object_meaning.specs.Outcomes.{Outcome, sizes_in}
use Rattle.object_meaning.specs.SourceRuns.{SourceGives}
use Rattle.object_meaning.specs.States.{State, Setting}
use Rattle.run_tasks.specs.declared.printing.Did.{Did}
use Rattle.run_tasks.specs.declared.printing.Did.TheVariants.{Prints}
use Rattle.run_tasks.specs.declared.runs.Ran.{Ran}
use Rattle.run_tasks.specs.Runs.{ran_of}

-- the answer is that of the module's run, under the `go` lines of a plan, and the list has each object that the run made
pub record IsMakingRun (content : ModuleContent) (input : List ℤ) (go : ℕ → Option ℕ) (bound : ℕ) (ran : Ran) (made : List Made) : Type 0 where
  pub outcome : Outcome
  pub gives : SourceGives content input go bound outcome
  pub answer : ran ≡ ran_of outcome.end outcome.func outcome.steps outcome.events outcome.printed
  pub made_are : made ≡ makings outcome.happened (sizes_in content.layouts outcome.objects)

-- the same of a run from a state on
pub record MakesFrom (setting : Setting) (start : Progress State) (ran : Ran) (made : List Made) : Type 0 where
  pub last : Progress State
  pub all : MakesAll setting start ran.end last made
  pub func : ran.func.0 ≡ last.state.running.func
  pub steps : ran.steps ≡ last.state.steps
  pub events : ran.events ≡ last.state.events
  pub lines : ran.lines ≡ line_count last.lines

-- a run from a start has come to this state, with so many lines, and has made these objects
pub record Tracks (setting : Setting) (start : Progress State) (state : State) (count : ℕ) (made : List Made) : Type 0 where
  pub lines : List (List ℕ)
  pub has : HasMade setting start (record { state = state; lines = lines }) made
  pub counted : count ≡ line_count lines

-- the object that is there when the bytes of all objects have risen
abbrev pub newly : ℕ → ℕ → ℕ → List Made
newly event before now = if nat_lt before now then record { event = event; footprint = now - before } ∷ [] else []

-- the count of printed lines behind a step that did this
abbrev pub lines_after : Did → ℕ → ℕ
lines_after (Prints word) count = min (count + 1) (2 ^ 64 - 1)
lines_after _ count = count
