use Rattle.ir_cfg.proofs.CountLemmas.{AddsUpTo}
use Rattle.ir_cfg.proofs.turned.add_up.Given as goal

abbrev pub invariant-loop-place : goal.invariant-loop-place
invariant-loop-place l = AddsUpTo l.initial.counts.items l.place l.end l.counts.items
