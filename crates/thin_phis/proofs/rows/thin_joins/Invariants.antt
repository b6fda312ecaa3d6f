use Rattle.std.proofs.Common.{◌≡◌, map}
use Rattle.std.specs.List.{range_with_len}
use Rattle.thin_phis.specs.Runs.{join_left}
use Rattle.thin_phis.proofs.rows.thin_joins.Given as goal

abbrev pub invariant-loop-block : goal.invariant-loop-block
invariant-loop-block l = map (λ join. join.items) l.after.items ≡ map (join_left l.joins l.rows l.numbers) (range_with_len 0 l.block)
