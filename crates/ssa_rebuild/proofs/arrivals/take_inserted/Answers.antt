use Rattle.std.proofs.Common.{refl, ap, List, map, get_or}
use Rattle.std.proofs.lemmas.List.{take_more, take_all}
use Rattle.sp_ids.specs.declared.ids.BlockId.{BlockId}
use Rattle.ssa_rebuild.specs.Rows.{inserted_entries}
use Rattle.ssa_rebuild.specs.Arrivals.{inserted_numbers}
use Rattle.ssa_rebuild.proofs.RowLemmas.{inserted_more}
use Rattle.ssa_rebuild.proofs.TakeLemmas.{takes_none, takes_both, takes_same, inserted_numbers_more}
use Rattle.ssa_rebuild.proofs.arrivals.take_inserted.Goals as goal

pub loop-block-init : goal.loop-block-init
loop-block-init c = takes_none c.args.rows.now c.args.arrivals.now _ _ (λ p. refl) (λ here. refl)

pub loop-block-preserved : goal.loop-block-preserved
loop-block-preserved c =
    let i = c.loop-block.block-index in
    let none : BlockId = record { 0 = 0 } in
    let more = take_more c.args.preds.now i none c.loop-block-test.true in
    takes_both c.args.rows.now c.args.arrivals.now c.loop-block.arrivals c.take_number.new.arrivals _ _ _ _ _ _ c.loop-block.invariant c.in_ok-take_number.ensures
    (λ p. inserted_more p c.args.preds.now i c.args.value.0 (get_or c.args.preds.now i none) more)
    (λ here. inserted_numbers_more here c.args.preds.now i c.args.value.0 (get_or c.args.preds.now i none) more)

pub returns : goal.returns
returns c =
    let all = take_all c.loop-block.block-index c.args.preds.now c.loop-block-test.false in
    takes_same c.args.rows.now c.args.arrivals.now c.loop-block.arrivals _ _ _ _
    (λ p. ap (λ (bs : List BlockId). inserted_entries p (map (λ block. block.0) bs) c.args.value.0) all)
    (λ here. ap (λ (bs : List BlockId). inserted_numbers here (map (λ block. block.0) bs) c.args.value.0) all)
    c.loop-block.invariant
