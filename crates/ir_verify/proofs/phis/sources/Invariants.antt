use Rattle.std.specs.Prelude.{map}
use Rattle.ir_verify.proofs.EdgeLemmas.{EdgesUpTo}
use Rattle.ir_verify.proofs.phis.sources.Given as goal

abbrev pub invariant-loop-from : goal.invariant-loop-from
invariant-loop-from l = EdgesUpTo l.fn.func.content l.from (map (λ list. list.items) l.into.items)
