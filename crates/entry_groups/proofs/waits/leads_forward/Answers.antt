use Rattle.std.proofs.Common.{◌∙◌, sym}
use Rattle.entry_groups.specs.Entry.{leads_on}
use Rattle.entry_groups.proofs.RangeLaws.{all_more}
use Rattle.entry_groups.proofs.waits.leads_forward.Goals as goal

pub loop-number-preserved : goal.loop-number-preserved
loop-number-preserved c = all_more (leads_on c.args.blocks.now) c.loop-number.number c.loop-number.invariant (sym c.leads_on.ensures ∙ c.if-not-leads_on.false)
