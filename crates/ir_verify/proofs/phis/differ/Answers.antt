use Rattle.std.proofs.Common.{◌≡◌, ◌∙◌, ◌<◌, ℕ, length, get_or, arith, subst}
use Rattle.std.specs.Prelude.{refl, slice_get, slice_index}
use Rattle.std.proofs.lemmas.List.{length-set, get_or_read}
use Rattle.std.proofs.lemmas.Option.{slice_get-get_or}
use Rattle.sp_ids.specs.declared.ids.BlockId.{BlockId}
use Rattle.ir_verify.proofs.PhiLemmas.{filled-none, filled-more, filled-agree, many-differ}
use Rattle.ir_verify.proofs.phis.differ.Goals as goal

pub loop-place-init : goal.loop-place-init
loop-place-init c = record { size = refl; filled = filled-none c.args.labels.now c.args.operands.now c.args.places.now.items }

pub loop-place-preserved : goal.loop-place-preserved
loop-place-preserved c =
    let labels = c.args.labels.now in
    let place = c.loop-place.place in
    let none : BlockId = record { 0 = 0 } in
    let here : BlockId = get_or labels place none in
    let known : here.0 < length c.args.places.now.items = c.requires place none c.loop-place-test.true in
    let size = c.loop-place.invariant.size in
    let places = c.loop-place.places.items in
    let inside : here.0 < length c.loop-place.places.items = omega (arith, known, size) in
    let Alike : ℕ → Type 0 = λ k. k < place → slice_get labels k ≡ slice_get labels place → slice_get c.args.operands.now k ≡ slice_get c.args.operands.now place in
    let same : c.index-earlier.result.now ≡ slice_index places here.0
    = get_or_read places here.0 c.index-earlier.result.now inside c.index-earlier.ensures 0 in
    record {
      size = length-set c.loop-place.places.items here.0 place ∙ size;
      filled = filled-more labels c.args.operands.now c.loop-place.places.items place here (slice_get-get_or labels place none c.loop-place-test.true)
          inside c.loop-place.invariant.filled (subst Alike same (c.differs.ensures.same c.if-differs.false));
    }

pub returns-then-labels-operands-clause-apart : goal.returns-then-labels-operands-clause-apart
returns-then-labels-operands-clause-apart c = λ t. many-differ c.args.labels.now c.args.operands.now c.if-labels-operands.true

pub returns-then-differs-clause-apart : goal.returns-then-differs-clause-apart
returns-then-differs-clause-apart c = λ t agree. let d = c.differs.ensures.apart c.if-differs.true in d.1 (agree _ _ d.0)

pub returns-clause-agree : goal.returns-clause-agree
returns-clause-agree c = λ f.
    filled-agree c.args.labels.now c.args.operands.now c.loop-place.places.items c.loop-place.place (omega arith) c.if-labels-operands.false c.loop-place.invariant.filled
