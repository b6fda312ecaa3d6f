use Rattle.rewriting_laws.proofs.Rewritings.{fitting_keeps, fitting_adds}
use Rattle.rewriting_laws.proofs.fitting_keeps.Goals as goal

pub returns-clause-keeps : goal.returns-clause-keeps
returns-clause-keeps c = fitting_keeps

pub returns-clause-adds : goal.returns-clause-adds
returns-clause-adds c = fitting_adds
