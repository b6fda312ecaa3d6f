use Rattle.frames_shown.proofs.NameLaws as laws
use Rattle.frames_shown.proofs.names_are_found.Goals as goal

pub returns : goal.returns
returns c = λ content number func defined block place within. laws.name_found content number func defined block place within
