use Rattle.std.proofs.Common.{append_assoc, rules, SFits, w32}
use Rattle.std.proofs.lemmas.Int.{to_z-of_z}
use Rattle.map_bytes.specs.Maps.{place_bytes}
use Rattle.stackmap_write.proofs.records.put_place.Goals as goal

pub returns : goal.returns
unfolding place_bytes
returns c =
    let fits : SFits w32 c.args.place.offset = search rules in
    let same = to_z-of_z w32 c.args.place.offset fits in
    rw (c.in_ok-put_i32.ensures, c.in_ok-put_u16-3.ensures, c.in_ok-put_u16-2.ensures, c.in_ok-put_u16.ensures, c.in_ok-put_u8-2.ensures, c.in_ok-put_u8.ensures)
    (simp (append_assoc, same))
