use Rattle.stackmap_view.specs.Owners.{owned}
use Rattle.stackmap_view.proofs.WalkLaws.{walk-end}
use Rattle.stackmap_view.proofs.walk.RecordsIterator.next.Goals as goal

pub returns-then-self-eq0-clause-steps : goal.returns-then-self-eq0-clause-steps
returns-then-self-eq0-clause-steps c =
    let walk = c.args.self.now in
    let none = walk-end (owned walk.owner) walk.count walk.records.now c.if-self-eq0.true in
    (none, none)
