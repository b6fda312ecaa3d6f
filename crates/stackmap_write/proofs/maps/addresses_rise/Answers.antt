use Rattle.stackmap_write.proofs.AddressLaws.{target_addresses_rise}
use Rattle.stackmap_write.proofs.maps.addresses_rise.Goals as goal

pub returns : goal.returns
returns c = target_addresses_rise
