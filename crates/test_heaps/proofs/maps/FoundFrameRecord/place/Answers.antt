use Rattle.std.proofs.Common.{◌≡◌, ◌<◌, take, length, get_or, sym, ◌∙◌, ap, arith, Some}
use Rattle.std.proofs.lemmas.List.{length-take, get_or-take}
use Rattle.std.proofs.lemmas.Option.{slice_get-get_or}
use Rattle.map_bytes.specs.declared.values.Place.{Place}
use Rattle.test_heaps.proofs.maps.FoundFrameRecord.place.Goals as goal

pub index-requires : goal.index-requires
index-requires c =
    let size = length-take 65535 c.args.self.now.listing.now.places.items in omega (arith, c.requires)

pub returns : goal.returns
returns c =
    let size = length-take 65535 c.args.self.now.listing.now.places.items in
    slice_get-get_or (take 65535 c.args.self.now.listing.now.places.items) c.args.index c.index.result.now c.requires
    ∙ ap (λ (place : Place). Some place) (get_or-take 65535 c.args.self.now.listing.now.places.items c.args.index c.index.result.now (omega (arith, c.requires)) ∙ sym c.index.ensures)
