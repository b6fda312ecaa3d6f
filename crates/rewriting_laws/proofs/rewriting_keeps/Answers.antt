use Rattle.rewriting_laws.proofs.Rewritings.{rewriting_keeps, rewriting_adds}
use Rattle.rewriting_laws.proofs.rewriting_keeps.Goals as goal

pub returns-clause-keeps : goal.returns-clause-keeps
returns-clause-keeps c = rewriting_keeps

pub returns-clause-adds : goal.returns-clause-adds
returns-clause-adds c = rewriting_adds
