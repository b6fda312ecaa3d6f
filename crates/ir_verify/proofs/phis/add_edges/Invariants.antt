use Rattle.std.proofs.Common.{take}
use Rattle.std.specs.Prelude.{map}
use Rattle.ir_verify.specs.Phis.{AddsEdges}
use Rattle.ir_verify.proofs.phis.add_edges.Given as goal

abbrev pub invariant-loop-label : goal.invariant-loop-label
invariant-loop-label l = AddsEdges l.from (take l.label-index l.labels) (map (λ list. list.items) l.initial.into.items) (map (λ list. list.items) l.into.items)
