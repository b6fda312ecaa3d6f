use Rattle.std.proofs.Common.{◌≡◌, ◌∙◌, ap, sym, append_assoc, arith, length, length-append}
use Rattle.std.specs.List.{flat_map}
use Rattle.std.proofs.lemmas.Grind.{flat_map-append}
use Rattle.std.proofs.lemmas.List.{append-nil}
use Rattle.map_bytes.specs.Fits.{PlaceFits}
use Rattle.map_bytes.specs.Maps.{record_bytes_then}
use Rattle.map_bytes.proofs.PartLaws.{record_bytes-parts}
use Rattle.stackmap_write.specs.ModuleMaps.{deopt_places, group_places, member_places, statepoint_record}
use Rattle.stackmap_write.proofs.AppendLemmas.{all_back, all_front}
use Rattle.stackmap_write.proofs.PlaceFitLaws.{deopts_count, members_alone}
use Rattle.stackmap_write.proofs.records.put_record.Goals as goal

pub place_count-places-requires : goal.place_count-places-requires
place_count-places-requires c =
    let deopts = deopt_places c.args.constants.now.keys c.args.call.now in
    omega (
      arith,
      c.requires.fits.few_places,
      length-append deopts (flat_map member_places c.args.group.now),
      deopts_count c.args.constants.now.keys c.args.call.now,
      ap length c.bundle-deopts.ensures,
    )

pub put_deopts-requires-clause-fit : goal.put_deopts-requires-clause-fit
put_deopts-requires-clause-fit c =
    let keys = c.args.constants.now.keys in
    all_front (PlaceFits (length keys)) (deopt_places keys c.args.call.now) (flat_map member_places c.args.group.now) c.requires.fits.places.1.1.1

pub put_pairs-requires : goal.put_pairs-requires
put_pairs-requires c =
    let keys = c.args.constants.now.keys in
    members_alone (length keys) c.args.group.now
    (all_back (PlaceFits (length keys)) (deopt_places keys c.args.call.now) (flat_map member_places c.args.group.now) c.requires.fits.places.1.1.1)

pub returns : goal.returns
unfolding record_bytes_then
returns c =
    let keys = c.args.constants.now.keys in
    let deopts = deopt_places keys c.args.call.now in
    let members = flat_map member_places c.args.group.now in
    let many : length c.bundle-deopts.result.now ≡ length deopts = ap length c.bundle-deopts.ensures ∙ sym (deopts_count keys c.args.call.now) in
    let count : c.place_count-places.result ≡ length (group_places deopts c.args.group.now) = omega (arith, c.place_count-places.ensures, length-append deopts members, many) in
    rw (
      c.in_ok-put_padding-2.ensures,
      c.in_ok-put_u16-4.ensures,
      c.in_ok-put_u16-3.ensures,
      c.in_ok-put_padding.ensures,
      c.from.ensures,
      c.in_ok-put_pairs.ensures,
      c.in_ok-put_deopts.ensures,
      c.in_ok-put_head_places.ensures,
      c.in_ok-put_u16-2.ensures,
      c.in_ok-put_u16.ensures,
      c.in_ok-put_u32.ensures,
      c.in_ok-put_u64.ensures,
      count,
      many,
      record_bytes-parts (statepoint_record c.args.id c.args.offset deopts c.args.group.now),
    )
    (simp (append_assoc, append-nil, flat_map-append))
