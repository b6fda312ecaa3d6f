-- What a run answers.
use Rattle.std.specs.Prelude.{ℕ}
use Rattle.sp_ids.specs.declared.ends.End.{End}
use Rattle.run_tasks.specs.declared.runs.Ran.{Ran}

-- the answer of a run that ended so in this function, after these steps and events and so many printed numbers
abbrev pub ran_of : End → (func steps events printed : ℕ) → Ran
ran_of end func steps events printed = record { end = end; func = record { 0 = func }; steps = steps; events = events; lines = printed }
