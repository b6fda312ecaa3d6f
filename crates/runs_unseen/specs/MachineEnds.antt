-- What is proved of the runs of the machine.
use Rattle.std.specs.Prelude.{ℕ, ℤ, List}
use Rattle.sp_ids.specs.declared.ends.End.{End}
use Rattle.object_meaning.specs.Runs.{Reaches}
use Rattle.object_meaning.specs.Effects.{PrintsMore, Progress}
use Rattle.machine_meaning.specs.Machines.{Machine, Machinery}
use Rattle.machine_meaning.specs.MachineRuns.{MachineOutcome, MachineryGives, machine_opening, machine_proceeds}

-- a run comes to an end
pub record Given (machinery : Machinery) (input : List ℤ) : Type 0 where
  pub outcome : MachineOutcome
  pub gives : MachineryGives machinery input outcome

abbrev pub EachRunEnds : Type 0
EachRunEnds = (machinery : Machinery) (input : List ℤ) → Given machinery input

-- what it has printed in a state that it comes to stands first in what it prints
abbrev pub PrintedFirst : Type 0
PrintedFirst = (machinery : Machinery) (input : List ℤ) (now : Progress Machine) (outcome : MachineOutcome)
    → Reaches {E = End} (machine_proceeds machinery) (machine_opening machinery input) now
    → (gives : MachineryGives machinery input outcome) → PrintsMore now.lines gives.last.lines
