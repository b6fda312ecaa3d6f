use Rattle.std.proofs.Common.{length, arith, refl}
use Rattle.std.specs.Prelude.{is_some}
use Rattle.std.proofs.lemmas.Option.{slice_get_read}
use Rattle.definite_assign.proofs.StraightLemmas.{known_none, known_more, values_more, few_values, one_or_none}
use Rattle.definite_assign.proofs.straight.are_known.Goals as goal

pub loop-inst-init : goal.loop-inst-init
loop-inst-init c = record { known = omega arith; lines = known_none c.args.arguments c.args.insts.now }

pub loop-inst-preserved : goal.loop-inst-preserved
loop-inst-preserved c =
    let insts = c.args.insts.now in
    let index = c.loop-inst.inst-index in
    let inst = c.inst-item.result in
    let at = slice_get_read insts (length insts) index inst refl c.loop-inst-test.true c.inst-item.is in
    record {
      known = omega (arith, c.loop-inst.invariant.known, values_more c.args.arguments index insts inst at, c.count_given-known.ensures);
      lines = known_more c.args.arguments index c.loop-inst.known insts inst at c.loop-inst.invariant.known (c.is_known.ensures c.if-not-is_known.false) c.loop-inst.invariant.lines;
    }

pub overflow_add-known : goal.overflow_add-known
overflow_add-known c =
    omega (
      arith,
      c.loop-inst.invariant.known,
      few_values c.args.arguments c.loop-inst.inst-index c.args.insts.now (omega (arith, c.loop-inst-test.true)),
      c.requires.arguments,
      c.requires.insts,
      one_or_none (is_some c.inst-item.result.result),
      c.count_given-known.ensures,
    )

pub returns : goal.returns
returns c = λ is place inst below at. c.loop-inst.invariant.lines place inst (omega (arith, below, c.loop-inst-test.false)) at
