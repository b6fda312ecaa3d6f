use Rattle.std.proofs.Common.{◌≡◌, true, false}
use Rattle.std.specs.Prelude.{is_some}
use Rattle.fact_tables.proofs.HomeLemmas.{homes_kept, homes_pushed}
use Rattle.fact_tables.proofs.homes.add_result.Goals as goal

pub returns-in_ok-push : goal.returns-in_ok-push
returns-in_ok-push c =
    let some : is_some c.args.inst.now.result ≡ true = cc (c.result.ensures, c.is_some.ensures, c.if-is_some.true) in
    rw c.in_ok-push.ensures.items
    (homes_pushed c.args.func.now.content c.args.number c.args.place c.args.inst.now c.args.homes.now.items c.requires.inst some c.requires.homes)

pub returns-else-is_some : goal.returns-else-is_some
returns-else-is_some c =
    let none : is_some c.args.inst.now.result ≡ false = cc (c.result.ensures, c.is_some.ensures, c.if-is_some.false) in
    homes_kept c.args.func.now.content c.args.number c.args.place c.args.inst.now c.args.homes.now.items c.requires.inst none c.requires.homes
