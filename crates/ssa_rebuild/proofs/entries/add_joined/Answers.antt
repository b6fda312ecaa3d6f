use Rattle.std.proofs.Common.{refl, ap, List, map, get_or}
use Rattle.std.specs.List.{flat_map}
use Rattle.std.proofs.lemmas.List.{take_more, take_all}
use Rattle.sp_ids.specs.declared.ids.ValueId.{ValueId}
use Rattle.ssa_rebuild.specs.Rows.{inserted_entries}
use Rattle.ssa_rebuild.proofs.RowLemmas.{grows_none, grows_both, grows_same, joined_more}
use Rattle.ssa_rebuild.proofs.entries.add_joined.Goals as goal
use Rattle.statepoint_insert.specs.Groups.{numbers_in}

pub loop-value-init : goal.loop-value-init
loop-value-init c = grows_none c.args.rows.now.items _ (λ p within. refl)

pub loop-value-preserved : goal.loop-value-preserved
loop-value-preserved c =
    let i = c.loop-value.value-index in
    let none : ValueId = record { 0 = 0 } in
    grows_both c.args.rows.now.items c.loop-value.rows.items c.add_inserted.new.rows.items _ _ _ c.loop-value.invariant c.in_ok-add_inserted.ensures
    (λ p. joined_more p (map (λ block. block.0) c.args.preds.now) c.args.joined.now i (get_or c.args.joined.now i none) (take_more c.args.joined.now i none c.loop-value-test.true))

pub returns : goal.returns
returns c = grows_same c.args.rows.now.items c.loop-value.rows.items _ _
    (λ p. ap (λ (vs : List ValueId). flat_map (inserted_entries p (map (λ block. block.0) c.args.preds.now)) (numbers_in vs)) (take_all c.loop-value.value-index c.args.joined.now c.loop-value-test.false))
    c.loop-value.invariant
