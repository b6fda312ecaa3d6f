use Rattle.std.proofs.Common.{◌∙◌, ap}
use Rattle.live_sets.specs.Ends.{Places, gives_in}
use Rattle.live_sets.proofs.ends.Backward.gives.Goals as goal

pub returns : goal.returns
returns c = c.gives.ensures ∙ ap (λ (places : Places). gives_in places.firsts places.value c.args.block) c.self.view_is
