use Rattle.ir_reader.proofs.FittingLines.{fitting}
use Rattle.ir_reader.proofs.laws.fitting_line.Goals as goal

pub returns : goal.returns
returns c = λ state form place says line rest passed fits ends stands may. fitting state form place says line rest passed fits ends stands may
