use Rattle.std.specs.Prelude.{map}
use Rattle.derived_values.proofs.UserLemmas.{adds_used}
use Rattle.derived_values.proofs.users.add_used.Goals as goal

pub returns : goal.returns
returns c =
    adds_used c.args.operands.now c.args.bundle.now c.args.user (map (λ row. row.items) c.args.users.now.items) _ _ c.in_ok-add_operands.ensures c.in_ok-add_bundle.ensures
