use Rattle.moves_unseen.proofs.LineTypes as laws
use Rattle.moves_unseen.proofs.lines_are_typed.Goals as goal

pub returns : goal.returns
returns c = λ content target number func found block place line stands. laws.lines_are_typed content target number func found block place line stands
