use Rattle.std.proofs.Common.{◌≡◌, drop}
use Rattle.test_heaps.specs.Listings.{found_listed}
use Rattle.test_heaps.proofs.maps.find_listed.Given as goal

abbrev pub invariant-loop-listing : goal.invariant-loop-listing
invariant-loop-listing l = found_listed (drop l.listing-index l.records) l.address ≡ found_listed l.records l.address
