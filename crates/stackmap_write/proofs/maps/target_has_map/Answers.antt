use Rattle.stackmap_write.proofs.FitLaws.{target_map_is_map}
use Rattle.stackmap_write.proofs.maps.target_has_map.Goals as goal

pub returns : goal.returns
returns c = target_map_is_map
