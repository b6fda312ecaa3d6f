use Rattle.std.proofs.Common.{◌≡◌, length, vec_len, rules}
use Rattle.poll_place.proofs.PlacedLemmas.{polled_end}
use Rattle.poll_place.proofs.blocks.with_poll_at_end.Goals as goal

pub returns : goal.returns
returns c =
    let size : vec_len c.args.insts ≡ length c.args.insts.items = search rules in
    let same = polled_end c.args.number c.args.insts.items c.pop-last.new.self.items c.pop-last.result c.requires
    (rw (← size) c.pop-last.ensures.rest) (rw (← size) (c.pop-last.ensures.value c.requires.last)) in
    rw (← same) c.push_last.ensures
