-- The run of a setting for an input, and what it gives.
use Rattle.std.specs.Prelude.{◌≡◌, ℕ, ℤ, List, [], ◌∷◌, ◌++◌, map, reverse}
use Rattle.std.specs.List.{concat}
use Rattle.sp_ids.specs.declared.ends.End.{End}
use Rattle.ir_ast.specs.Layouts.{ObjectLayout}
use Rattle.ir_ast.specs.Objects.{Object, footprint}
use Rattle.object_meaning.specs.Runs.{Next, Go, Ends}
use Rattle.object_meaning.specs.States.{State, Setting}
use Rattle.object_meaning.specs.Effects.{Progress, after, line_count}
use Rattle.object_meaning.specs.Frames.{entered}
use Rattle.object_meaning.specs.Steps.{step}
use Rattle.object_meaning.specs.Traces.{Event, Access, events_at, accesses_at, traced}
use Rattle.object_meaning.specs.Texts.{closing_lines}

unfoldable pub proceeds : Setting → Progress State → Next End (Progress State)
proceeds setting progress = after progress.lines (step setting progress.state)

-- task 0 at the front of `@main`, no object, all of the input
abbrev pub opening : Setting → List ℤ → Progress State
opening setting input = record {
  state = record {
    running = entered setting setting.main [];
    below = [];
    task = 0;
    tasks = [] ∷ [];
    objects = [];
    input = input;
    steps = 0;
    events = 0;
  };
  lines = [];
}

-- what a run gives: all lines that it writes, how it ended, the function that ran last, the steps and events, how many
-- numbers it printed, its events and accesses in order, and the objects in the end
pub record Outcome : Type 0 where
  pub lines : List (List ℕ)
  pub end : End
  pub func : ℕ
  pub steps : ℕ
  pub events : ℕ
  pub printed : ℕ
  pub happened : List Event
  pub accesses : List Access
  pub objects : List Object

-- the footprints of objects, by number
abbrev pub sizes_in : List ObjectLayout → List Object → List ℕ
sizes_in layouts objects = map (footprint layouts) objects

abbrev pub whole_text : Outcome → List ℕ
whole_text outcome = concat outcome.lines

-- what the steps from here on do
abbrev pub events_from : Setting → ℕ → Next End (Progress State) → List Event
events_from setting within next = traced (λ progress. events_at progress.state.running.rest) (proceeds setting) within next

abbrev pub accesses_from : Setting → ℕ → Next End (Progress State) → List Access
accesses_from setting within next =
    traced (λ progress. accesses_at setting progress.state progress.state.running.rest) (proceeds setting) within next

-- what a run gives that has come to this end within so many steps
abbrev pub outcome_of : Setting → List ℤ → ℕ → End → Progress State → Outcome
outcome_of setting input within end last = record {
  lines = reverse last.lines ++ closing_lines setting.names end last.state;
  end = end;
  func = last.state.running.func;
  steps = last.state.steps;
  events = last.state.events;
  printed = line_count last.lines;
  happened = events_from setting within (Go (opening setting input));
  accesses = accesses_from setting within (Go (opening setting input));
  objects = last.state.objects;
}

pub record Gives (setting : Setting) (input : List ℤ) (outcome : Outcome) : Type 0 where
  pub last : Progress State
  pub run : Ends (proceeds setting) (opening setting input) outcome.end last
  pub is : outcome ≡ outcome_of setting input run.within outcome.end last
