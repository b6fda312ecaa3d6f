use Rattle.std.proofs.Common.{◌≡◌, ◌<◌, ℕ, []}
use Rattle.rewriting_forms.specs.Numbered.{succs}
use Rattle.live_sets.proofs.ends.has_edge.Given as goal

abbrev pub invariant-loop-number : goal.invariant-loop-number
invariant-loop-number l = (b : ℕ) → b < l.number → succs l.func.content b ≡ []
