-- An answer by its parts.
use Rattle.std.proofs.Common.{◌≡◌, ℕ, Result, Ok, Err, IfOk, OnOk, ap, ◌∙◌}
use Rattle.run_tasks.specs.declared.runs.Ran.{Ran}
use Rattle.run_tasks.specs.Runs.{ran_of}

pub ran_is : (ran : Ran) (func steps events printed : ℕ) → ran.func.0 ≡ func → ran.steps ≡ steps → ran.events ≡ events → ran.lines ≡ printed
    → ran ≡ ran_of ran.end func steps events printed
ran_is ran func steps events printed one two three four =
    ap (λ (f : ℕ). record ran { func = record { 0 = f } }) one
    ∙ (ap (λ (s : ℕ). record ran { func = record { 0 = func }; steps = s }) two
    ∙ (ap (λ (e : ℕ). record ran { func = record { 0 = func }; steps = steps; events = e }) three
    ∙ ap (λ (l : ℕ). record ran { func = record { 0 = func }; steps = steps; events = events; lines = l }) four))

-- what follows from each answer of a call
pub on_ok_from : {T E : Type 0} {P : T → Type 0} {Q : Type 0} (result : Result T E) → ((answer : T) → P answer → Q) → IfOk result P → OnOk result Q
on_ok_from (Ok answer) from held = from answer held
on_ok_from (Err error) from held = tt
