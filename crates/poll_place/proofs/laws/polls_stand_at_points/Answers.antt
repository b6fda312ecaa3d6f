use Rattle.poll_place.proofs.PointLemmas.{polls_at_points}
use Rattle.poll_place.proofs.laws.polls_stand_at_points.Goals as goal

pub returns : goal.returns
returns c = polls_at_points
