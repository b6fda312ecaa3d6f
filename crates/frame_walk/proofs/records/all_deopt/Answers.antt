use Rattle.std.proofs.Common.{◌≡◌, ℕ, ◌+◌, ◌-◌, ◌&&◌, sym, ap, ◌∙◌, arith, take, drop}
use Rattle.std.specs.List.{list_all}
use Rattle.frame_walk.specs.Maps.{is_deopt}
use Rattle.frame_walk.proofs.RecordLemmas.{all_within}
use Rattle.frame_walk.proofs.records.all_deopt.Goals as goal

pub returns-then-not-is_deopt : goal.returns-then-not-is_deopt
returns-then-not-is_deopt g c =
    let places = (g.R.FrameRecord.entry c.args.one.now).places in
    let index = c.loop-index.index in
    let test = is_deopt c.args.frame_bytes in
    let n : c.args.end - c.loop-index.index ≡ c.args.end - (c.loop-index.index + 1) + 1 = omega (arith, c.loop-index-test.true) in
    sym (sym c.loop-index.invariant ∙ ap (λ (k : ℕ). list_all test (take k (drop index places))) n
    ∙ all_within test places index (c.args.end - (index + 1)) c.place.result c.place.ensures
    ∙ ap (λ b. b && list_all test (take (c.args.end - (index + 1)) (drop (index + 1) places))) (sym c.is_deopt.ensures ∙ c.if-not-is_deopt.true))

pub loop-index-preserved : goal.loop-index-preserved
loop-index-preserved g c =
    let places = (g.R.FrameRecord.entry c.args.one.now).places in
    let index = c.loop-index.index in
    let test = is_deopt c.args.frame_bytes in
    let n : c.args.end - c.loop-index.index ≡ c.args.end - (c.loop-index.index + 1) + 1 = omega (arith, c.loop-index-test.true) in
    sym (ap (λ (k : ℕ). list_all test (take k (drop index places))) n
    ∙ all_within test places index (c.args.end - (index + 1)) c.place.result c.place.ensures
    ∙ ap (λ b. b && list_all test (take (c.args.end - (index + 1)) (drop (index + 1) places))) (sym c.is_deopt.ensures ∙ c.if-not-is_deopt.false))
    ∙ c.loop-index.invariant
