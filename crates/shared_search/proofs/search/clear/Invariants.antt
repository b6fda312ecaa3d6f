use Rattle.std.proofs.Common.{◌≡◌, ℕ, length, drop}
use Rattle.std.specs.List.{Contains}
use Rattle.graph_search.specs.Paths.{Marked}
use Rattle.shared_search.proofs.search.clear.Given as goal

abbrev pub invariant-loop-node : goal.invariant-loop-node
invariant-loop-node l = record {
  whole : length l.marks.items ≡ length l.initial.marks.items;
  left : (node : ℕ) → Marked l.marks.items node → Contains (drop l.node-index l.nodes) node;
}
