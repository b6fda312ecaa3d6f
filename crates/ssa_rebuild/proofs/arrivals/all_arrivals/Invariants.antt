use Rattle.std.proofs.Common.{◌≡◌, map, take}
use Rattle.rewriting_forms.specs.Numbered.{preds}
use Rattle.ssa_rebuild.specs.Rows.{entries_all}
use Rattle.ssa_rebuild.specs.Arrivals.{Takes, arriving_numbers}
use Rattle.ssa_rebuild.proofs.arrivals.all_arrivals.Given as goal
use Rattle.statepoint_insert.specs.Groups.{numbers_in}

abbrev pub invariant-loop-block : goal.invariant-loop-block
invariant-loop-block l = record {
  taken : Takes l.rows l.initial.arrivals l.arrivals
      (λ p. entries_all (preds l.func.content) (take l.block-index (map (λ join. numbers_in join.items) l.joins)) 0 (take l.block-index l.block-items) p)
      (λ here. arriving_numbers here (preds l.func.content) (take l.block-index (map (λ join. numbers_in join.items) l.joins)) 0 (take l.block-index l.block-items));
  number : l.number ≡ l.block-index;
}
