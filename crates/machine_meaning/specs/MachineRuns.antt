-- The run of the address machine, and what it gives.
use Rattle.std.specs.Prelude.{◌≡◌, ℕ, ℤ, List, [], ◌∷◌, ◌++◌, reverse}
use Rattle.sp_ids.specs.declared.ends.End.{End}
use Rattle.ir_ast.specs.Modules.{ModuleContent}
use Rattle.move_plan.specs.declared.plan_lines.PlanLine.{PlanLine}
use Rattle.map_bytes.specs.Maps.{StackMap}
use Rattle.moving_heap.specs.Heaps.{HeapView}
use Rattle.object_meaning.specs.Runs.{Next, Go, Ends}
use Rattle.object_meaning.specs.Effects.{Progress, after, line_count}
use Rattle.object_meaning.specs.Frames.{entered}
use Rattle.object_meaning.specs.Traces.{Access, traced}
use Rattle.machine_meaning.specs.Machines.{Machine, Machinery}
use Rattle.machine_meaning.specs.MachineTasks.{new_frame}
use Rattle.machine_meaning.specs.MachineSteps.{machine_step}
use Rattle.machine_meaning.specs.Happenings.{Happening, happenings_at, accesses_by}
use Rattle.machine_meaning.specs.TrapLines.{closing_of}
use Rattle.machine_meaning.specs.Code.{machinery_of}

unfoldable pub machine_proceeds : Machinery → Progress Machine → Next End (Progress Machine)
machine_proceeds machinery progress = after progress.lines (machine_step machinery progress.state)

-- task 0 at the front of `@main`, whose frame has the return address 0; no object, all of the input
abbrev pub machine_opening : Machinery → List ℤ → Progress Machine
machine_opening machinery input = record {
  state = record {
    state = record {
      running = entered machinery.setting machinery.setting.main [];
      below = [];
      task = 0;
      tasks = [] ∷ [];
      objects = [];
      input = input;
      steps = 0;
      events = 0;
    };
    stack = new_frame machinery machinery.setting.main 0;
    stacks = [] ∷ [];
    heap = record { stands = []; contents = []; moves = [] };
  };
  lines = [];
}

-- what a run gives: all lines that it writes, how it ended, the function that ran last, the steps and events, how many
-- numbers it printed, its events and accesses in order, and the heap in the end
pub record MachineOutcome : Type 0 where
  pub lines : List (List ℕ)
  pub end : End
  pub func : ℕ
  pub steps : ℕ
  pub events : ℕ
  pub printed : ℕ
  pub happened : List Happening
  pub accesses : List Access
  pub heap : HeapView

-- what the steps from here on do
abbrev pub happenings_from : Machinery → ℕ → Next End (Progress Machine) → List Happening
happenings_from machinery within next =
    traced (λ progress. happenings_at machinery progress.state progress.state.state.running.rest) (machine_proceeds machinery) within next

abbrev pub accesses_from : Machinery → ℕ → Next End (Progress Machine) → List Access
accesses_from machinery within next =
    traced (λ progress. accesses_by progress.state progress.state.state.running.rest) (machine_proceeds machinery) within next

-- what a run gives that has come to this end within so many steps
abbrev pub machine_outcome : Machinery → List ℤ → ℕ → End → Progress Machine → MachineOutcome
machine_outcome machinery input within end last = record {
  lines = reverse last.lines ++ closing_of machinery end last.state;
  end = end;
  func = last.state.state.running.func;
  steps = last.state.state.steps;
  events = last.state.state.events;
  printed = line_count last.lines;
  happened = happenings_from machinery within (Go (machine_opening machinery input));
  accesses = accesses_from machinery within (Go (machine_opening machinery input));
  heap = last.state.heap;
}

pub record MachineryGives (machinery : Machinery) (input : List ℤ) (outcome : MachineOutcome) : Type 0 where
  pub last : Progress Machine
  pub run : Ends (machine_proceeds machinery) (machine_opening machinery input) outcome.end last
  pub is : outcome ≡ machine_outcome machinery input run.within outcome.end last

-- the address machine's run of a rewritten module over a stack map, an input and a plan gives this
abbrev pub MachineGives : ModuleContent → StackMap → List ℤ → List PlanLine → ℕ → MachineOutcome → Type 0
MachineGives content map input plan bound outcome = MachineryGives (machinery_of content map plan bound) input outcome
