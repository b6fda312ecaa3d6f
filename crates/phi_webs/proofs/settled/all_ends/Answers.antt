use Rattle.std.proofs.Common.{ℕ, ◌<◌, length, subst, arith}
use Rattle.phi_webs.specs.Forests.{IsEnd}
use Rattle.phi_webs.proofs.LookLemmas.{ends_more, ends_all, read_up}
use Rattle.phi_webs.proofs.settled.all_ends.Goals as goal

pub loop-place-preserved : goal.loop-place-preserved
loop-place-preserved c =
    let below : c.loop-place.place < length c.loop-place.ups.items = omega arith in
    ends_more c.args.ups.now.items c.loop-place.ups.items c.end_of.new.ups.items c.loop-place.ends.items c.push.new.self.items c.loop-place.place
    c.end_of.result c.loop-place.invariant c.end_of.ensures.keeps
    (subst (λ (n : ℕ). IsEnd c.loop-place.ups.items n c.end_of.result)
    (read_up c.loop-place.ups.items c.loop-place.place c.index-name.result.now below c.index-name.ensures) c.end_of.ensures.end)
    c.in_ok-push.ensures.items

pub returns : goal.returns
returns c =
    ends_all c.args.ups.now.items c.loop-place.ups.items c.loop-place.ends.items c.loop-place.place c.loop-place.invariant (omega arith)
