use Rattle.std.proofs.Common.{map}
use Rattle.sp_ids.specs.declared.ids.BlockId.{BlockId}
use Rattle.base_facts.specs.Closing.{AskedBefore}
use Rattle.base_facts.proofs.closing.ask_edges.Given as goal

abbrev pub invariant-loop-pred : goal.invariant-loop-pred
invariant-loop-pred l = AskedBefore l.func.content l.number l.fact (map (λ (label : BlockId). label.0) l.pred-items) l.pred-index l.initial.asked l.asked
