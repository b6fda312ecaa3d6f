use Rattle.std.proofs.Common.{◌∙◌, ap, sym}
use Rattle.std.specs.List.{list_any}
use Rattle.move_plan.specs.Tables.{is_flip}
use Rattle.move_plan.proofs.EventLemmas.{flips-own}
use Rattle.move_plan.proofs.lookups.flips.Goals as goal

pub returns-else-flips_each : goal.returns-else-flips_each
returns-else-flips_each c =
    c.has_flip.ensures ∙ ap (list_any is_flip) c.lines_of.ensures
    ∙ sym (flips-own c.args.plan.now c.args.event c.requires.every_first (sym c.if-flips_each.ensures))
