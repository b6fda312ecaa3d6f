use Rattle.module_build.proofs.Placing.{read-placed}
use Rattle.text_resolve.proofs.read_lines_are_placed.Goals as goal

pub returns : goal.returns
returns c = read-placed
