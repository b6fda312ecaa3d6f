use Rattle.map_bytes.proofs.MapLaws.{either, not_both}
use Rattle.map_bytes.proofs.laws.map_or_fault.Goals as goal

pub returns : goal.returns
returns c = record { either = λ bytes are. either bytes are; not_both = λ bytes map fault is also. not_both bytes map fault is also }
