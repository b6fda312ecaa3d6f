use Rattle.std.proofs.Common.{◌≡◌, ◌++◌, take, replicate, true}
use Rattle.ir_cfg.specs.Unreached.{result_marks}
use Rattle.ir_cfg.proofs.unreached.value_marks.Given as goal

abbrev pub invariant-loop : goal.invariant-loop
invariant-loop l = l.values.items ≡ replicate l.counter true

abbrev pub invariant-loop-place : goal.invariant-loop-place
invariant-loop-place l = l.values.items ≡ replicate l.arguments true ++ result_marks l.marks (take l.place l.blocks)
