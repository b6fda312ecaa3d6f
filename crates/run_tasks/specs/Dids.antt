-- What a step did, over the states of either meaning.
use Rattle.std.specs.Prelude.{Option, Some, None}
use Rattle.sp_ids.specs.declared.ends.End.{End}
use Rattle.object_meaning.specs.Effects.{Effect, goes_on, prints, ends}
use Rattle.run_tasks.specs.declared.printing.Did.{Did}
use Rattle.run_tasks.specs.declared.printing.Did.TheVariants.{GoesOn, Prints, Ends}

-- the effect of a step that did this and left this state
abbrev pub effect_of : {S : Type 0} → Did → S → Effect S
effect_of GoesOn state = goes_on state
effect_of (Prints word) state = prints word state
effect_of (Ends end) state = ends end state

-- the end of the run, where the step was its last
abbrev pub ended_of : Did → Option End
ended_of (Ends end) = Some end
ended_of _ = None
