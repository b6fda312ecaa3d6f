use Rattle.std.proofs.Common.{◌<◌, ◌≤◌, length, get_or, arith, ap, ◌∙◌}
use Rattle.std.proofs.lemmas.List.{get_or_default, length-set}
use Rattle.ir_cfg.proofs.CountLemmas.{counted_more, few_counted}
use Rattle.ir_cfg.proofs.turned.counts.Goals as goal

pub count_one-requires-clause-inside : goal.count_one-requires-clause-inside
count_one-requires-clause-inside c =
    let below : c.loop-label.label-index < length c.args.labels.now = omega arith in
    let asked = c.requires c.loop-label.label-index (record { 0 = 0 }) below in
    omega (arith, asked, c.loop-label.invariant.whole)

pub count_one-requires-clause-fits : goal.count_one-requires-clause-fits
count_one-requires-clause-fits c =
    let below : c.loop-label.label-index < length c.args.labels.now = omega arith in
    let upto : c.loop-label.label-index ≤ length c.args.labels.now = omega arith in
    let asked = c.requires c.loop-label.label-index (record { 0 = 0 }) below in
    let label = get_or c.args.labels.now c.loop-label.label-index (record { 0 = 0 }) in
    let inside : label.0 < length c.loop-label.counts.items = omega (arith, asked, c.loop-label.invariant.whole) in
    let few = few_counted c.args.labels.now c.loop-label.label-index c.loop-label.counts.items label.0 upto c.loop-label.invariant.counts inside in
    omega (arith, few)

pub loop-label-preserved : goal.loop-label-preserved
loop-label-preserved c =
    let below : c.loop-label.label-index < length c.args.labels.now = omega arith in
    let asked = c.requires c.loop-label.label-index (record { 0 = 0 }) below in
    let label = get_or c.args.labels.now c.loop-label.label-index (record { 0 = 0 }) in
    let inside : label.0 < length c.loop-label.counts.items = omega (arith, asked, c.loop-label.invariant.whole) in
    record {
      whole = ap length c.count_one.ensures ∙ length-set c.loop-label.counts.items label.0 _ ∙ c.loop-label.invariant.whole;
      counts = counted_more c.args.labels.now c.loop-label.label-index label c.loop-label.counts.items _ below
          (get_or_default c.args.labels.now c.loop-label.label-index label (record { 0 = 0 }) below) inside c.loop-label.invariant.counts c.count_one.ensures;
    }
