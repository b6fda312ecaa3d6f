use Rattle.known_values.specs.Statements.{KnowsAs}
use Rattle.known_values.proofs.FrameLaws.{all_frames}
use Rattle.known_values.proofs.OnwardLaws.{knows_kept}
use Rattle.known_values.proofs.known_values_hold.Goals as goal

pub returns : goal.returns
returns c = λ setting number func meanings text known input now reached.
    all_frames setting (KnowsAs setting number func meanings) (knows_kept setting number func meanings text known) input now reached
