use Rattle.std.proofs.Common.{◌∙◌, sym, ap}
use Rattle.statepoint_tool.specs.Steps.{Go}
use Rattle.statepoint_tool.specs.Work.{read_step}
use Rattle.statepoint_tool.proofs.phases.read_in.Goals as goal
use Rattle.module_laws.proofs.ReadTexts.{seen-again}

pub returns-in-Ok-clause-read : goal.returns-in-Ok-clause-read
returns-in-Ok-clause-read c = ap Go (sym (seen-again c.in-Ok.raw.lines)) ∙ sym (ap read_step c.in-Ok.ensures.exact)
