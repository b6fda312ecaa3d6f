use Rattle.std.proofs.Common.{arith}
use Rattle.std.proofs.lemmas.List.{length-take}
use Rattle.test_heaps.proofs.maps.FoundFrameRecord.places.Goals as goal

pub returns : goal.returns
returns c =
    let size = length-take 65535 c.args.self.now.listing.now.places.items in omega (arith, c.min.ensures, c.len.ensures)
