use Rattle.map_bytes.proofs.MapLaws.{one_map}
use Rattle.map_bytes.proofs.laws.one_map.Goals as goal

pub returns : goal.returns
returns c = λ bytes one other is also. one_map bytes one other is also
