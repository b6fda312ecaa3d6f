use Rattle.std.proofs.Common.{◌≡◌, ◌<◌, ℕ, false}
use Rattle.rewriting_forms.specs.Numbered.{preds}
use Rattle.rewriting_forms.specs.Names.{is_many}
use Rattle.live_sets.proofs.phis.has_join.Given as goal

abbrev pub invariant-loop-number : goal.invariant-loop-number
invariant-loop-number l = (b : ℕ) → b < l.number → is_many (preds l.func.content b) ≡ false
