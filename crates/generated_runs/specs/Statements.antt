-- What is proved of the runs of generated modules.
use Rattle.std.specs.Prelude.{◌≡◌, ℕ, ◌≤◌, ℤ, pos, List, Option}
use Rattle.sp_ids.specs.declared.ends.End.TheVariants.{Return}
use Rattle.object_meaning.specs.Outcomes.{Outcome}
use Rattle.object_meaning.specs.SourceRuns.{SourceGives}
use Rattle.generated_forms.specs.Modules.{generated}

-- each run of 10,000,000 steps ends in a return of 0, whatever the input and the `go` lines are
abbrev pub GeneratedReturns : Type 0
GeneratedReturns = (seed size : ℕ) (input : List ℤ) (go : ℕ → Option ℕ) (outcome : Outcome) → size ≤ 1000
    → SourceGives (generated seed size) input go 10000000 outcome → outcome.end ≡ Return (pos 0)
