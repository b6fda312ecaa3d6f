-- What is proved of the objects of a run.
use Rattle.std.specs.Prelude.{◌≡◌, ◌⊎◌, ℕ, ◌+◌, ◌-◌, ◌^◌, min, ℤ, List, [], ◌∷◌, length}
use Rattle.sp_ids.specs.declared.ends.End.{End}
use Rattle.sp_ids.specs.declared.ends.End.TheVariants.{Trap}
use Rattle.sp_ids.specs.declared.ends.Trap.TheVariants.{Count, Full}
use Rattle.object_meaning.specs.Outcomes.{Gives, Outcome, sizes_in}
use Rattle.object_meaning.specs.States.{Setting}
use Rattle.object_meaning.specs.Traces.{Event, at_new, at_poll}
use Rattle.made_objects.specs.Makings.{makings, sizes_made}
use Rattle.made_objects.specs.Packed.{ArePacked}

-- how many of these events are new objects
abbrev pub new_count : List Event → ℕ
new_count [] = 0
new_count (at_poll ∷ events) = new_count events
new_count (at_new ∷ events) = new_count events + 1

-- a run ends so where a new object isn't made
abbrev pub IsRefused : End → Type 0
IsRefused end = (end ≡ Trap Count) ⊎ (end ≡ Trap Full)

-- the events of a run are counted, and they make all of its objects
pub record IsMadeAtEvents (setting : Setting) (outcome : Outcome) : Type 0 where
  pub counted : outcome.events ≡ min (length outcome.happened) (2 ^ 64 - 1)
  pub new : (new_count outcome.happened ≡ length outcome.objects) ⊎ ((new_count outcome.happened ≡ length outcome.objects + 1) × IsRefused outcome.end)
  pub all : sizes_made (makings outcome.happened (sizes_in setting.layouts outcome.objects)) ≡ sizes_in setting.layouts outcome.objects
  pub packed : ArePacked (makings outcome.happened (sizes_in setting.layouts outcome.objects))

abbrev pub RunsMakeTheirObjects : Type 0
RunsMakeTheirObjects = (setting : Setting) (input : List ℤ) (outcome : Outcome) → Gives setting input outcome → IsMadeAtEvents setting outcome
