use Rattle.std.proofs.Common.{◌≡◌, ℕ, ◌<◌, get_or, length}
use Rattle.object_meaning.specs.Jumps.{label_at}
use Rattle.flat_code.specs.declared.lines.Edge.{Edge}
use Rattle.flat_code.specs.Edges.{IsEdge}
use Rattle.flat_code.proofs.edges.edges.Given as goal

abbrev pub invariant-loop-place : goal.invariant-loop-place
invariant-loop-place l = record {
  count : length l.edges.items ≡ l.place;
  each : (k : ℕ) (d : Edge) → k < length l.edges.items → IsEdge l.source.defined l.from (label_at l.inst.labels k) (get_or l.edges.items k d);
}
