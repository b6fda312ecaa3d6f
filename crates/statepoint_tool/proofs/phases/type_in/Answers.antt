use Rattle.ir_lines.specs.Views.{seen_lines}
use Rattle.statepoint_tool.proofs.TextLaws.{typed-go, typed-stop}
use Rattle.statepoint_tool.proofs.phases.type_in.Goals as goal

pub returns-in-Ok-clause-typed : goal.returns-in-Ok-clause-typed
returns-in-Ok-clause-typed c = typed-go c.args.form (seen_lines c.args.raw.lines) c.in-Ok.read c.in-Ok.ensures.answers

pub returns-in-Err-Fault-clause-typed : goal.returns-in-Err-Fault-clause-typed
returns-in-Err-Fault-clause-typed c =
    typed-stop c.args.form (seen_lines c.args.raw.lines) c.in-Err-Fault.field-0 c.in-Err-Fault.fault c.in-Err-Fault.field-0-is c.in-Err-Fault.ensures.answers
