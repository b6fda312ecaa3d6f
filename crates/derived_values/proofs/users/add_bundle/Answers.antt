use Rattle.std.specs.Prelude.{map}
use Rattle.derived_values.proofs.UserLemmas.{adds_none, adds_entry}
use Rattle.derived_values.proofs.users.add_bundle.Goals as goal

pub loop-entry-init : goal.loop-entry-init
loop-entry-init c = adds_none c.args.user (map (λ row. row.items) c.args.users.now.items)

pub loop-entry-preserved : goal.loop-entry-preserved
loop-entry-preserved c =
    adds_entry c.args.bundle.now c.loop-entry.entry-index _ c.args.user _ _ _ c.loop-entry-test.true c.loop-entry.invariant c.in_ok-add_operand.ensures
