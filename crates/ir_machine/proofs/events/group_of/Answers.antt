use Rattle.std.proofs.Common.{◌≡◌, [], refl}
use Rattle.ir_machine.proofs.events.group_of.Goals as goal

pub returns-then-is_empty : goal.returns-then-is_empty
returns-then-is_empty c =
    let none : c.args.plan.now ≡ [] = c.is_empty.ensures.0 c.if-is_empty.true in
    rw none refl
