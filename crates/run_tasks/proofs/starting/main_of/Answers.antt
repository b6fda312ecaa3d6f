use Rattle.std.proofs.Common.{ap, sym, ◌∙◌}
use Rattle.std.specs.Prelude.{unwrap_or}
use Rattle.run_tasks.proofs.StartLemmas.{main_is}
use Rattle.run_tasks.proofs.starting.main_of.Goals as goal

pub returns-in-None : goal.returns-in-None
returns-in-None c =
    sym (main_is c.args.«module».now.content c.funcs.result.now c.funcs.ensures.content
    ∙ ap (λ found. unwrap_or found 0) (sym c.main_among.ensures.value ∙ c.in-None.is))

pub returns-in-Some : goal.returns-in-Some
returns-in-Some c =
    sym (main_is c.args.«module».now.content c.funcs.result.now c.funcs.ensures.content
    ∙ ap (λ found. unwrap_or found 0) (sym c.main_among.ensures.value ∙ c.in-Some.is))
