use Rattle.std.proofs.Common.{refl, ap, List, map, get_or}
use Rattle.std.proofs.lemmas.List.{take_more, take_all}
use Rattle.sp_ids.specs.declared.ids.BlockId.{BlockId}
use Rattle.ssa_rebuild.specs.Rows.{inserted_entries}
use Rattle.ssa_rebuild.proofs.RowLemmas.{grows_none, grows_both, grows_same, inserted_more}
use Rattle.ssa_rebuild.proofs.entries.add_inserted.Goals as goal

pub loop-block-init : goal.loop-block-init
loop-block-init c = grows_none c.args.rows.now.items _ (λ p within. refl)

pub loop-block-preserved : goal.loop-block-preserved
loop-block-preserved c =
    let i = c.loop-block.block-index in
    let none : BlockId = record { 0 = 0 } in
    grows_both c.args.rows.now.items c.loop-block.rows.items c.add_entry.new.rows.items _ _ _ c.loop-block.invariant c.in_ok-add_entry.ensures
    (λ p. inserted_more p c.args.preds.now i c.args.value.0 (get_or c.args.preds.now i none) (take_more c.args.preds.now i none c.loop-block-test.true))

pub returns : goal.returns
returns c = grows_same c.args.rows.now.items c.loop-block.rows.items _ _
    (λ p. ap (λ (bs : List BlockId). inserted_entries p (map (λ block. block.0) bs) c.args.value.0) (take_all c.loop-block.block-index c.args.preds.now c.loop-block-test.false))
    c.loop-block.invariant
