use Rattle.moves_unseen.proofs.ArithmeticLaws as laws
use Rattle.moves_unseen.proofs.integers_follow.Goals as goal

pub returns : goal.returns
returns c = λ content machinery setting state extra related line rest is arithmetical gives. laws.arithmetic_follows content machinery setting state extra related line rest is arithmetical gives
