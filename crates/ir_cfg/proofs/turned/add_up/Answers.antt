use Rattle.std.proofs.Common.{◌≡◌, ◌<◌, length, refl, arith}
use Rattle.ir_cfg.proofs.CountLemmas.{sum_fits, adds_more}
use Rattle.ir_cfg.proofs.turned.add_up.Goals as goal

pub loop-place-init : goal.loop-place-init
loop-place-init c = record { whole = refl; end_is = refl; done = λ k before. absurd (omega (arith, before)); rest = λ k after. refl }

pub overflow_add-end : goal.overflow_add-end
overflow_add-end c =
    let below : c.loop-place.place < length c.args.counts.now.items = omega (arith, c.loop-place.invariant.whole) in
    let le = sum_fits c.args.counts.now.items c.loop-place.counts.items c.loop-place.place c.loop-place.end c.index.result.now c.loop-place.invariant below c.index.ensures in
    omega (arith, le, c.requires)

pub loop-place-preserved : goal.loop-place-preserved
loop-place-preserved c =
    let below : c.loop-place.place < length c.args.counts.now.items = omega (arith, c.loop-place.invariant.whole) in
    adds_more c.args.counts.now.items c.loop-place.counts.items c.loop-place.place c.loop-place.end c.index.result.now c.loop-place.invariant below c.index.ensures

pub returns : goal.returns
returns c =
    let all : c.loop-place.place ≡ length c.args.counts.now.items = omega arith in
    let done = c.loop-place.invariant.done in
    record { whole = c.loop-place.invariant.whole; each = λ place below. done place (omega (arith, below, all)) }
