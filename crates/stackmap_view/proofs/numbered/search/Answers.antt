use Rattle.std.proofs.Common.{sym, ap, ◌∙◌}
use Rattle.std.specs.Prelude.{option_map}
use Rattle.stackmap_view.specs.Views.{seen}
use Rattle.stackmap_view.proofs.IndexLaws.{kept, kept-here, kept-none, search-point, slice-at, slice-past}
use Rattle.stackmap_view.proofs.numbered.search.Goals as goal

pub below-place-requires : goal.below-place-requires
below-place-requires c = c.requires

pub returns-then-place-list : goal.returns-then-place-list
returns-then-place-list c =
    let xs = c.args.list.now in
    let place = c.below-place.result in
    let point = search-point xs c.args.address place c.requires c.below-place.ensures.point.0 c.below-place.ensures.point.1 in
    sym (ap (option_map (λ one. seen one.lent)) (point ∙ ap (kept c.args.address) (slice-past xs place c.if-place-list.true)))

pub returns-then-return_address-address : goal.returns-then-return_address-address
returns-then-return_address-address c =
    let xs = c.args.list.now in
    let place = c.below-place.result in
    let one = c.index-list-place.result in
    let point = search-point xs c.args.address place c.requires c.below-place.ensures.point.0 c.below-place.ensures.point.1 in
    let same = sym c.return_address.ensures ∙ c.if-return_address-address.true in
    sym (ap (option_map (λ one. seen one.lent)) (point ∙ ap (kept c.args.address) (slice-at xs place one c.if-place-list.false c.index-list-place.is) ∙ kept-here c.args.address one same))

pub returns-else-return_address-address : goal.returns-else-return_address-address
returns-else-return_address-address c =
    let xs = c.args.list.now in
    let place = c.below-place.result in
    let one = c.index-list-place.result in
    let point = search-point xs c.args.address place c.requires c.below-place.ensures.point.0 c.below-place.ensures.point.1 in
    sym (ap (option_map (λ one. seen one.lent)) (point ∙ ap (kept c.args.address) (slice-at xs place one c.if-place-list.false c.index-list-place.is)
    ∙ kept-none c.args.address one (λ same. c.if-return_address-address.false (c.return_address.ensures ∙ same))))
