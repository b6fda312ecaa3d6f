-- What is proved of images.
use Rattle.std.specs.Prelude.{ℕ, ℤ, ◌↔◌, List}
use Rattle.object_meaning.specs.States.{Setting}
use Rattle.object_meaning.specs.Outcomes.{Outcome, Gives}
use Rattle.renaming_laws.specs.Renamed.{Renaming}
use Rattle.renaming_laws.specs.Images.{CanRenumber, HasImages, renumbered_setting}

-- a run of the images gives what the run gives: lines, end, function, steps, events, accesses and objects
abbrev pub ImagesGiveTheSame : Type 0
ImagesGiveTheSame = (functions : ℕ → Renaming) (one other : Setting) → HasImages functions one other
    → (input : List ℤ) (outcome : Outcome) → Gives one input outcome ↔ Gives other input outcome

-- a run doesn't depend on the numbers of its registers
abbrev pub RenumberingGivesTheSame : Type 0
RenumberingGivesTheSame = (functions : ℕ → Renaming) (setting : Setting) → CanRenumber functions setting
    → (input : List ℤ) (outcome : Outcome) → Gives setting input outcome ↔ Gives (renumbered_setting functions setting) input outcome
