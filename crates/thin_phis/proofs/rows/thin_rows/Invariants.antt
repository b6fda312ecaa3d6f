use Rattle.std.proofs.Common.{◌≡◌, map}
use Rattle.std.specs.List.{range_with_len}
use Rattle.ssa_rebuild.specs.Answers.{number_of}
use Rattle.thin_phis.specs.Runs.{row_left}
use Rattle.thin_phis.proofs.rows.thin_rows.Given as goal

abbrev pub invariant-loop-block : goal.invariant-loop-block
invariant-loop-block l = map (λ row. map number_of row.items) l.after.items ≡ map (row_left l.joins l.rows l.numbers) (range_with_len 0 l.block)
