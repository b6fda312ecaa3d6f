use Rattle.map_bytes.proofs.MapLaws.{one_fault}
use Rattle.map_bytes.proofs.laws.one_fault.Goals as goal

pub returns : goal.returns
returns c = λ bytes one other is also. one_fault bytes one other is also
