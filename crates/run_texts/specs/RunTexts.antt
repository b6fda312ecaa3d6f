-- The text of a run of the address machine: at each step the lines of its trace and what it prints, then what waiting frames show
-- at a trap, the line that closes the run, and where the objects stand.
use Rattle.std.specs.Prelude.{◌≡◌, ℕ, ℤ, Bool, true, false, if◌then◌else◌, List, [], ◌∷◌, ◌++◌, map, slice_get}
use Rattle.std.specs.List.{concat, flat_map}
use Rattle.std.specs.Option.{option_map_or}
use Rattle.sp_ids.specs.declared.ends.End.{End}
use Rattle.ir_ast.specs.Layouts.{ObjectLayout}
use Rattle.ir_ast.specs.Modules.{ModuleContent}
use Rattle.move_plan.specs.declared.plan_lines.PlanLine.{PlanLine}
use Rattle.map_bytes.specs.Maps.{StackMap}
use Rattle.moving_heap.specs.declared.stands.Stand.{Stand}
use Rattle.moving_heap.specs.Contents.{Content}
use Rattle.object_meaning.specs.Effects.{Effect, prints, Progress, printed_line}
use Rattle.object_meaning.specs.Runs.{Next, Go}
use Rattle.object_meaning.specs.Tasks.{with_event}
use Rattle.object_meaning.specs.Texts.{function_name}
use Rattle.object_meaning.specs.Traces.{Event, at_poll, at_new, traced}
use Rattle.machine_meaning.specs.Code.{machinery_of}
use Rattle.machine_meaning.specs.Happenings.{Happening, ObjectMove, SlotChange, happenings_at}
use Rattle.machine_meaning.specs.Machines.{Machine, Machinery}
use Rattle.machine_meaning.specs.MachineRuns.{MachineOutcome, MachineGives, machine_opening, machine_proceeds}
use Rattle.machine_meaning.specs.MachineSteps.{machine_step}
use Rattle.machine_meaning.specs.TrapLines.{closing_of}
use Rattle.tool_report.specs.Closings.{closing_line}
use Rattle.tool_report.specs.RunLines.{event_line, moved_line, place_line, slot_line}

-- ---- steps

abbrev pub is_poll : Event → Bool
is_poll at_poll = true
is_poll at_new = false

abbrev pub line_of_move : ObjectMove → List ℕ
line_of_move move = moved_line move.object move.old move.new

abbrev pub line_of_slot : SlotChange → List ℕ
line_of_slot slot = slot_line slot.task slot.frame slot.offset slot.old slot.new

-- an event with this number, its moves and its slots
abbrev pub event_lines : ℕ → Happening → List (List ℕ)
event_lines number one =
    event_line number (is_poll one.event) one.verdict ∷ (map line_of_move one.moves ++ map line_of_slot one.slots)

-- the trace of the step that a machine is about to take
abbrev pub trace_lines : Machinery → Machine → List (List ℕ)
trace_lines machinery machine =
    flat_map (event_lines (with_event machine.state).events) (happenings_at machinery machine machine.state.running.rest)

abbrev pub printed_by : Effect Machine → List (List ℕ)
printed_by (prints word machine) = printed_line word ∷ []
printed_by effect = []

-- what this step writes, with its trace or without
abbrev pub step_lines : Machinery → Bool → Machine → List (List ℕ)
step_lines machinery trace machine =
    (if trace then trace_lines machinery machine else []) ++ printed_by (machine_step machinery machine)

-- what the steps from here on write
abbrev pub lines_from : Machinery → Bool → ℕ → Next End (Progress Machine) → List (List ℕ)
lines_from machinery trace within next =
    traced (λ progress. step_lines machinery trace progress.state) (machine_proceeds machinery) within next

-- ---- the end

abbrev pub layout_name : List ObjectLayout → ℕ → List ℕ
layout_name layouts place = option_map_or (λ layout. layout.name) (slice_get layouts place) []

-- objects by where they stand and what they hold
abbrev pub place_lines : List ObjectLayout → List Stand → List Content → List (List ℕ)
place_lines layouts (stand ∷ stands) (content ∷ contents) =
    place_line stand.number (layout_name layouts content.layout) content.count stand.address ∷ place_lines layouts stands contents
place_lines layouts _ _ = []

-- the line that closes the run of a module, and the places of its objects where they are shown
abbrev pub end_lines : ModuleContent → Bool → End → Machine → List (List ℕ)
end_lines content places end last =
    closing_line end (function_name content last.state.running.func) last.state.steps last.state.events
    ∷ (if places then place_lines content.layouts last.heap.stands last.heap.contents else [])

-- ---- the whole

-- what is written behind the last step: what waiting frames show at a trap, then the closing line and the places
abbrev pub last_lines : ModuleContent → Machinery → Bool → End → Machine → List (List ℕ)
last_lines content machinery places end last = closing_of machinery end last ++ end_lines content places end last

-- the lines of a run from a state on that has come to this end within so many steps
abbrev pub lines_to_end : ModuleContent → Machinery → (places trace : Bool) → ℕ → Progress Machine → End → Machine → List (List ℕ)
lines_to_end content machinery places trace within start end last =
    lines_from machinery trace within (Go start) ++ last_lines content machinery places end last

-- and of a run over this input
abbrev pub run_lines : ModuleContent → Machinery → (places trace : Bool) → List ℤ → ℕ → End → Machine → List (List ℕ)
run_lines content machinery places trace input within end last =
    lines_to_end content machinery places trace within (machine_opening machinery input) end last

-- the machine's run of a rewritten module over a stack map, an input and a plan, which gives this outcome, writes this text, with
-- places and trace or without
pub record RunWrites (content : ModuleContent) (map : StackMap) (input : List ℤ) (plan : List PlanLine) (bound : ℕ) (places trace : Bool) (outcome : MachineOutcome) (text : List ℕ) : Type 0 where
  pub gives : MachineGives content map input plan bound outcome
  pub is : text ≡ concat (run_lines content (machinery_of content map plan bound) places trace input gives.run.within outcome.end gives.last.state)
