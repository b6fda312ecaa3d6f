use Rattle.std.proofs.Common.{◌+◌, ap, ◌∙◌}
use Rattle.frame_walk.proofs.RecordLemmas.{first_pairs}
use Rattle.frame_walk.proofs.pairs.slot_pairs.Goals as goal

pub returns : goal.returns
returns g c = first_pairs (g.R.FrameRecord.entry c.args.one.now) (3 + c.from.result) (ap (λ n. 3 + n) (c.from.ensures ∙ c.deopt_count.ensures.count))
