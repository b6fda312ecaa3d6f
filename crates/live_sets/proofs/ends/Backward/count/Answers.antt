use Rattle.std.proofs.Common.{◌∙◌, ap, sym, length}
use Rattle.live_sets.specs.Ends.{Places}
use Rattle.live_sets.proofs.EndLemmas.{fronts_length}
use Rattle.live_sets.proofs.ends.Backward.count.Goals as goal

pub returns-clause-is : goal.returns-clause-is
returns-clause-is c = c.self.invariant.0 ∙ sym (fronts_length c.self.inside.cfg.now) ∙ ap (λ (places : Places). length places.fronts) c.self.view_is
