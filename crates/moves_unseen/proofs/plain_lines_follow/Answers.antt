use Rattle.moves_unseen.proofs.PlainSteps as laws
use Rattle.moves_unseen.proofs.plain_lines_follow.Goals as goal

pub returns : goal.returns
returns c = λ content target verified machinery setting layouts_are same_layouts state extra related line rest is plain.
    laws.plain_follows content target verified machinery setting layouts_are same_layouts state extra related line rest is plain
