use Rattle.map_bytes.proofs.MapLaws.{aligned}
use Rattle.map_bytes.proofs.laws.aligned_records.Goals as goal

pub returns : goal.returns
returns c = λ one. aligned one
