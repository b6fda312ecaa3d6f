use Rattle.moves_unseen.proofs.ComparisonLaws as laws
use Rattle.moves_unseen.proofs.pairs_are_compared.Goals as goal

pub returns : goal.returns
returns c = λ stands are one one_base two two_base word base_word other_word other_base_word first second. laws.pairs_compared stands are one one_base two two_base word base_word other_word other_base_word first second
