use Rattle.std.proofs.Common.{rules}
use Rattle.generated_forms.specs.Draws.{drawn}
use Rattle.module_gen.proofs.DrawLaws.{next_computed}
use Rattle.module_gen.proofs.draws.Draws.draw.Goals as goal

pub returns-clause-state : goal.returns-clause-state
returns-clause-state c = next_computed c.args.self.now.state

pub returns-clause-number : goal.returns-clause-number
unfolding drawn
returns-clause-number c = search rules
