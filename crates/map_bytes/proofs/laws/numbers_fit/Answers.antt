use Rattle.map_bytes.proofs.FitsLaws.{map-fits, fits-map}
use Rattle.map_bytes.proofs.laws.numbers_fit.Goals as goal

pub returns : goal.returns
returns c = λ map. (λ is. map-fits map is, λ fits. fits-map map fits)
