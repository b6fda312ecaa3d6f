use Rattle.std.proofs.Common.{arith, refl, []}
use Rattle.std.proofs.lemmas.Result.{err_from_is_err_and}
use Rattle.map_bytes.specs.Reads.{map_read}
use Rattle.stackmap_view.proofs.ViewLaws.{keeps, looked_err, map_looked, only_map}
use Rattle.stackmap_view.proofs.view.MapView.of.Goals as goal

pub returns : goal.returns
returns c =
    let kept = keeps c.args.bytes.now [] (λ i. omega (arith, c.type_inv.bytes i)) c.in_ok-look_through.ensures in
    record { map = kept.is; fault = tt; only = λ map is. (only_map c.args.bytes.now map (map_read c.args.bytes.now) is kept.is, refl) }

pub invariant_of-result : goal.invariant_of-result
invariant_of-result c =
    let kept = keeps c.args.bytes.now [] (λ i. omega (arith, c.type_inv.bytes i)) c.in_ok-look_through.ensures in
    record { faultless = kept.faultless; room = kept.room; counted = kept.counted; spelled = kept.spelled }

pub returns-in_err-look_through : goal.returns-in_err-look_through
returns-in_err-look_through c =
    let p = err_from_is_err_and c.from_residual.result c.from_residual.ensures.1 in
    rw (p.1, p.2) (record {
      map = tt;
      fault = looked_err c.args.bytes.now c.in_err-look_through.field-0.0 (λ i. omega (arith, c.type_inv.bytes i)) c.in_err-look_through.ensures;
      only = λ map is. absurd (map_looked c.args.bytes.now map c.in_err-look_through.field-0.0 (λ i. omega (arith, c.type_inv.bytes i)) is c.in_err-look_through.ensures);
    })
