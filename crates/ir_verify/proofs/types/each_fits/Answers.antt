use Rattle.std.proofs.Common.{◌≡◌, ◌∙◌, sym, arith, true, false}
use Rattle.ir_ast.specs.Faults.TypeClash.{Fits}
use Rattle.std.specs.Prelude.{refl}
use Rattle.std.proofs.lemmas.Option.{slice_get-get_or}
use Rattle.ir_verify.proofs.Zips.{zip_at, zip_more, zip_all}
use Rattle.ir_verify.proofs.types.each_fits.Goals as goal
use Rattle.list_laws.proofs.Zips.{zip_lengths}

pub returns-then-operands-types : goal.returns-then-operands-types
returns-then-operands-types c = (
  (λ is. absurd (let bad : false ≡ true = is in cc)),
  (λ all. absurd (let long = zip_lengths (Fits c.args.values.now) c.args.operands.now c.args.types.now all in c.if-operands-types.true long)),
)

pub returns-then-not-fits : goal.returns-then-not-fits
returns-then-not-fits c = (
  (λ is. absurd (let bad : false ≡ true = is in cc)),
  (λ all. let l = c.if-operands-types.false in
      let at = zip_at (Fits c.args.values.now) c.args.operands.now c.args.types.now c.loop-place.place _ _ all
      (slice_get-get_or c.args.operands.now c.loop-place.place _ c.loop-place-test.true)
      (slice_get-get_or c.args.types.now c.loop-place.place _ (omega arith)) in sym c.if-not-fits.true ∙ c.fits.ensures.1 at),
)

pub loop-place-preserved : goal.loop-place-preserved
loop-place-preserved c =
    zip_more (Fits c.args.values.now) c.args.operands.now c.args.types.now c.loop-place.place _ _ c.loop-place.invariant
    (slice_get-get_or c.args.operands.now c.loop-place.place _ c.loop-place-test.true)
    (slice_get-get_or c.args.types.now c.loop-place.place _ (omega arith)) (c.fits.ensures.0 c.if-not-fits.false)

pub returns : goal.returns
returns c = (
  (λ is. zip_all (Fits c.args.values.now) c.args.operands.now c.args.types.now c.loop-place.place (omega arith) (omega arith) c.loop-place.invariant),
  (λ all. refl),
)
