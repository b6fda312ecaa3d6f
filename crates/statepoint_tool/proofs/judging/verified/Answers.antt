use Rattle.std.proofs.Common.{sym, subst}
use Rattle.ir_ast.specs.Modules.{LinedModule}
use Rattle.statepoint_tool.specs.Steps.{Go}
use Rattle.statepoint_tool.specs.Work.{Judging}
use Rattle.statepoint_tool.specs.Work.{verified}
use Rattle.statepoint_tool.proofs.JudgeLaws.{refused-says}
use Rattle.statepoint_tool.proofs.judging.verified.Goals as goal

pub returns-in-Ok-clause-judged : goal.returns-in-Ok-clause-judged
returns-in-Ok-clause-judged c = subst (λ (checked : LinedModule). Judging c.args.read (Go checked)) (sym c.in-Ok.ensures.kept) (verified c.in-Ok.ensures.verified)

pub returns-in-Err-Fault-clause-judged : goal.returns-in-Err-Fault-clause-judged
returns-in-Err-Fault-clause-judged c =
    refused-says c.args.read c.in-Err-Fault.field-0 c.in-Err-Fault.fault _ c.in-Err-Fault.field-0-is c.in-Err-Fault.ensures.refused
