use Rattle.std.proofs.Common.{◌∙◌}
use Rattle.moving_heap.proofs.GroupLemmas.{all_rest}
use Rattle.moving_heap.proofs.groups.moves_none.Goals as goal

pub returns : goal.returns
returns c = c.all_rest.ensures ∙ all_rest c.args.targets.now
