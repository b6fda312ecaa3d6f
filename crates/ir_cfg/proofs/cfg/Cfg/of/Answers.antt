use Rattle.ir_cfg.proofs.GraphLemmas.{leads_inside}
use Rattle.ir_cfg.proofs.cfg.Cfg.of.Goals as goal

pub turned-requires-clause-targets : goal.turned-requires-clause-targets
turned-requires-clause-targets c = rw c.in_ok-succs.ensures.rows (leads_inside c.args.func.now.content c.requires.known)

pub marks-requires-clause-inside : goal.marks-requires-clause-inside
marks-requires-clause-inside c = rw c.in_ok-succs.ensures.rows (leads_inside c.args.func.now.content c.requires.known)
