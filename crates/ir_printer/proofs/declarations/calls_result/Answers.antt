use Rattle.ir_printer.specs.Declarations.{integer_widths}
use Rattle.ir_printer.proofs.declarations.calls_result.Goals as goal

pub returns : goal.returns
unfolding integer_widths
returns c = c.calls_result_between.ensures
