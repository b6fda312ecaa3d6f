use Rattle.moves_unseen.proofs.EntryLaws as laws
use Rattle.moves_unseen.proofs.frames_are_entered.Goals as goal

pub returns : goal.returns
returns c = λ content place func found go_line bound objects stands given words are.
    (laws.frame_entered content place func found go_line bound objects stands given words are, laws.entered_words_are content place func found go_line bound objects stands given words are)
