use Rattle.std.proofs.Common.{refl}
use Rattle.sp_text.specs.Lines.{lines_left, lines_of}
use Rattle.sp_text.proofs.lines.Lines.of.Goals as goal

pub returns-clause-all : goal.returns-clause-all
unfolding lines_left lines_of
returns-clause-all c = refl
