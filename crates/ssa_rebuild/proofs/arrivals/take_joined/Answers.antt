use Rattle.std.proofs.Common.{ℕ, refl, ap, List, map, get_or}
use Rattle.std.specs.List.{flat_map}
use Rattle.std.proofs.lemmas.List.{take_more, take_all}
use Rattle.sp_ids.specs.declared.ids.BlockId.{BlockId}
use Rattle.sp_ids.specs.declared.ids.ValueId.{ValueId}
use Rattle.ssa_rebuild.specs.Rows.{inserted_entries}
use Rattle.ssa_rebuild.specs.Arrivals.{inserted_numbers}
use Rattle.ssa_rebuild.proofs.RowLemmas.{joined_more}
use Rattle.ssa_rebuild.proofs.TakeLemmas.{takes_none, takes_both, takes_same, joined_numbers_more}
use Rattle.ssa_rebuild.proofs.arrivals.take_joined.Goals as goal
use Rattle.statepoint_insert.specs.Groups.{numbers_in}

pub loop-value-init : goal.loop-value-init
loop-value-init c = takes_none c.args.rows.now c.args.arrivals.now _ _ (λ p. refl) (λ here. refl)

pub loop-value-preserved : goal.loop-value-preserved
loop-value-preserved c =
    let i = c.loop-value.value-index in
    let none : ValueId = record { 0 = 0 } in
    let preds : List ℕ = map (λ (block : BlockId). block.0) c.args.preds.now in
    let more = take_more c.args.joined.now i none c.loop-value-test.true in
    takes_both c.args.rows.now c.args.arrivals.now c.loop-value.arrivals c.take_inserted.new.arrivals _ _ _ _ _ _ c.loop-value.invariant c.in_ok-take_inserted.ensures
    (λ p. joined_more p preds c.args.joined.now i (get_or c.args.joined.now i none) more)
    (λ here. joined_numbers_more here preds c.args.joined.now i (get_or c.args.joined.now i none) more)

pub returns : goal.returns
returns c =
    let preds : List ℕ = map (λ (block : BlockId). block.0) c.args.preds.now in
    let all = take_all c.loop-value.value-index c.args.joined.now c.loop-value-test.false in
    takes_same c.args.rows.now c.args.arrivals.now c.loop-value.arrivals _ _ _ _
    (λ p. ap (λ (vs : List ValueId). flat_map (inserted_entries p preds) (numbers_in vs)) all)
    (λ here. ap (λ (vs : List ValueId). flat_map (inserted_numbers here preds) (numbers_in vs)) all)
    c.loop-value.invariant
