use Rattle.std.proofs.Common.{List, subst}
use Rattle.version_walk.specs.declared.walk.Pending.{Pending}
use Rattle.version_walk.specs.Walks.{IsWalk}
use Rattle.version_walk.proofs.walk.Walk.turn.Goals as goal

pub returns-in_ok-enter-in-Some-clause-walk : goal.returns-in_ok-enter-in-Some-clause-walk
returns-in_ok-enter-in-Some-clause-walk c parents own rows whole are is =
    c.in_ok-enter-in-Some.ensures.walk parents own rows whole are
    (subst (λ (pending : List Pending). IsWalk parents (record { starts = c.args.starts.now; own = own; rows = rows }) pending
    c.args.self.now.versions.current.items c.args.self.now.versions.log.items c.args.self.now.rows.items c.args.self.now.done.items) c.in-Some.ensures.items is)
