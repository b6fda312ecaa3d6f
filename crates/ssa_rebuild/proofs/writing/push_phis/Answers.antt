use Rattle.std.proofs.Common.{get_or, drop, ◌+◌}
use Rattle.std.proofs.lemmas.List.{drop_more}
use Rattle.sp_ids.specs.declared.ids.ValueId.{ValueId}
use Rattle.ssa_rebuild.proofs.WrittenLemmas.{phis_on, phis_behind_on}
use Rattle.ssa_rebuild.proofs.writing.push_phis.Goals as goal

pub loop-value-preserved : goal.loop-value-preserved
loop-value-preserved c =
    let i = c.loop-value._value-index in
    let values = c.args.values.now in
    let none : ValueId = record { 0 = 0 } in
    let split = drop_more values i none c.loop-value-test.true in
    record {
      lines = phis_on c.args.preds.now c.loop-value.writing c.push_phi.new.writing (drop i values) (drop (i + 1) values) (get_or values i none) _ _ _ split
          c.in_ok-push_phi.ensures.writing c.loop-value.invariant.lines c.in_ok-push_phi.ensures.lines;
      writing = phis_behind_on c.args.preds.now c.loop-value.writing c.push_phi.new.writing _ (drop i values) (drop (i + 1) values) (get_or values i none) split
          c.in_ok-push_phi.ensures.writing c.loop-value.invariant.writing;
    }
