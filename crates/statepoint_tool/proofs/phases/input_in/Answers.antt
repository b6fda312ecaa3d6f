use Rattle.statepoint_tool.specs.Work.{has_numbers, no_input}
use Rattle.statepoint_tool.proofs.phases.input_in.Goals as goal

pub returns-in-Ok : goal.returns-in-Ok
returns-in-Ok c = has_numbers c.in-Ok.numbers.items c.in-Ok.ensures.input c.in-Ok.ensures.faultless

pub returns-in-Err-Line : goal.returns-in-Err-Line
returns-in-Err-Line c = no_input c.in-Err-Line.line (rw c.in-Err-Line.field-0-is at c.in-Err-Line.ensures.fault)
