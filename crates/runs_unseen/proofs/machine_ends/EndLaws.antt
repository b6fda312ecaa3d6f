-- Each run of the machine comes to an end, whatever the map and the plan are: the steps that count are bounded, so are the
-- tasks that are started, and any other step leaves fewer lines to the frames in which the tasks stand.
use Rattle.std.proofs.Common.{◌≡◌, ℕ, zero, suc, ◌-◌, ◌<◌, List, [], ◌∷◌, length, refl, ap, ◌∙◌, arith}
use Rattle.sp_ids.specs.declared.ends.End.{End}
use Rattle.sp_ids.specs.declared.ends.End.TheVariants as ended
use Rattle.sp_ids.specs.declared.ends.Trap.TheVariants as traps
use Rattle.object_meaning.specs.Effects.{Effect, goes_on, prints, ends, Progress, after, printed_line}
use Rattle.object_meaning.specs.Runs.{Next, Go, goes, Ends}
use Rattle.machine_meaning.specs.Machines.{Machine, Machinery}
use Rattle.machine_meaning.specs.MachineRuns.{machine_opening, machine_outcome, machine_proceeds}
use Rattle.machine_meaning.specs.MachineSteps.{machine_step}
use Rattle.runs_unseen.specs.MachineEnds.{EachRunEnds}
use Rattle.runs_unseen.proofs.machine_ends.LineCounts.{lines_left}
use Rattle.runs_unseen.proofs.machine_ends.EffectLaws.{LeadsOn, counted, tasked, fewer, stuck, Fares}
use Rattle.runs_unseen.proofs.machine_ends.StepLaws.{fares, step_at_end}
use Rattle.object_meaning.proofs.EndLaws.{ends_before}

record Halted (machinery : Machinery) (start : Progress Machine) : Type 0 where
  end : End
  last : Progress Machine
  run : Ends (machine_proceeds machinery) start end last

abbrev Halts : Machinery → Machine → Type 0
Halts machinery machine = (lines : List (List ℕ)) → Halted machinery (record { state = machine; lines = lines })

halted_before : (machinery : Machinery) (start next : Progress Machine) → machine_proceeds machinery start ≡ Go next → Halted machinery next → Halted machinery start
halted_before machinery start next is rest =
    record { end = rest.end; last = rest.last; run = ends_before (machine_proceeds machinery) start next rest.end rest.last is rest.run }

halted_after : (machinery : Machinery) (machine : Machine) (effect : Effect Machine) → machine_step machinery machine ≡ effect
    → ((next : Machine) → LeadsOn machinery.setting.bound machine.state next.state → Halts machinery next) → Fares machinery.setting.bound machine.state effect → Halts machinery machine
unfolding machine_proceeds
halted_after machinery machine (goes_on next) is rest leads lines =
    halted_before machinery (record { state = machine; lines = lines }) (record { state = next; lines = lines }) (ap (after lines) is) (rest next leads lines)
halted_after machinery machine (prints word next) is rest leads lines =
    halted_before machinery (record { state = machine; lines = lines }) (record { state = next; lines = printed_line word ∷ lines })
    (ap (after lines) is) (rest next leads (printed_line word ∷ lines))
halted_after machinery machine (ends end last) is rest final lines =
    record { end = end; last = record { state = last; lines = lines }; run = record { within = suc zero; by = ap (after lines) is } }

halts_stuck : (machinery : Machinery) (machine : Machine) → machine.state.running.rest ≡ [] → Halts machinery machine
unfolding machine_proceeds
halts_stuck machinery machine is lines = record {
  end = ended.Trap traps.Unreachable;
  last = record { state = machine; lines = lines };
  run = record { within = suc zero; by = ap (after lines) (step_at_end machinery machine is) };
}

-- by the steps that are left, then by the tasks, then by the lines
halts_next : (machinery : Machinery) (steps tasks lines : ℕ)
    → ((machine : Machine) → machinery.setting.bound - machine.state.steps < steps → Halts machinery machine)
    → ((machine : Machine) → machinery.setting.bound - machine.state.steps < suc steps → 64 - length machine.state.tasks < tasks → Halts machinery machine)
    → ((machine : Machine) → machinery.setting.bound - machine.state.steps < suc steps → 64 - length machine.state.tasks < suc tasks → lines_left machine.state < lines → Halts machinery machine)
    → (machine : Machine) → machinery.setting.bound - machine.state.steps < suc steps → 64 - length machine.state.tasks < suc tasks → lines_left machine.state < suc lines
    → (next : Machine) → LeadsOn machinery.setting.bound machine.state next.state → Halts machinery next
halts_next machinery steps tasks lines fewer_steps fewer_tasks fewer_lines machine one two three next (counted under is) =
    fewer_steps next (omega arith)
halts_next machinery steps tasks lines fewer_steps fewer_tasks fewer_lines machine one two three next (tasked same under is) =
    fewer_tasks next (omega arith) (omega arith)
halts_next machinery steps tasks lines fewer_steps fewer_tasks fewer_lines machine one two three next (fewer same also shorter) =
    fewer_lines next (omega arith) (omega arith) (omega arith)
halts_next machinery steps tasks lines fewer_steps fewer_tasks fewer_lines machine one two three next (stuck is) = halts_stuck machinery next is

halts_lines : (machinery : Machinery) (steps tasks : ℕ)
    → ((machine : Machine) → machinery.setting.bound - machine.state.steps < steps → Halts machinery machine)
    → ((machine : Machine) → machinery.setting.bound - machine.state.steps < suc steps → 64 - length machine.state.tasks < tasks → Halts machinery machine)
    → (lines : ℕ) (machine : Machine) → machinery.setting.bound - machine.state.steps < suc steps → 64 - length machine.state.tasks < suc tasks → lines_left machine.state < lines
    → Halts machinery machine
halts_lines machinery steps tasks fewer_steps fewer_tasks zero machine one two three = absurd (omega arith)
halts_lines machinery steps tasks fewer_steps fewer_tasks (suc lines) machine one two three =
    halted_after machinery machine (machine_step machinery machine) refl
    (halts_next machinery steps tasks lines fewer_steps fewer_tasks (halts_lines machinery steps tasks fewer_steps fewer_tasks lines) machine one two three)
    (fares machinery machine)

halts_tasks : (machinery : Machinery) (steps : ℕ) → ((machine : Machine) → machinery.setting.bound - machine.state.steps < steps → Halts machinery machine)
    → (tasks : ℕ) (machine : Machine) → machinery.setting.bound - machine.state.steps < suc steps → 64 - length machine.state.tasks < tasks → Halts machinery machine
halts_tasks machinery steps fewer_steps zero machine one two = absurd (omega arith)
halts_tasks machinery steps fewer_steps (suc tasks) machine one two =
    halts_lines machinery steps tasks fewer_steps (halts_tasks machinery steps fewer_steps tasks) (suc (lines_left machine.state)) machine one two (omega arith)

halts_steps : (machinery : Machinery) (steps : ℕ) (machine : Machine) → machinery.setting.bound - machine.state.steps < steps → Halts machinery machine
halts_steps machinery zero machine one = absurd (omega arith)
halts_steps machinery (suc steps) machine one =
    halts_tasks machinery steps (halts_steps machinery steps) (suc (64 - length machine.state.tasks)) machine one (omega arith)

run_ends : (machinery : Machinery) (start : Progress Machine) → Halted machinery start
run_ends machinery start = halts_steps machinery (suc (machinery.setting.bound - start.state.state.steps)) start.state (omega arith) start.lines

pub each_run_ends : EachRunEnds
each_run_ends machinery input =
    let halted = run_ends machinery (machine_opening machinery input) in
    record {
      outcome = machine_outcome machinery input halted.run.within halted.end halted.last;
      gives = record { last = halted.last; run = halted.run; is = refl };
    }
