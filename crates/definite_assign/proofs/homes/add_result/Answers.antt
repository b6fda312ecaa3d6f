use Rattle.std.proofs.Common.{◌≡◌, true, false, arith}
use Rattle.std.specs.Prelude.{is_some}
use Rattle.definite_assign.proofs.TextLemmas.{place_within}
use Rattle.definite_assign.proofs.HomeLemmas.{homes_pushed, homes_kept}
use Rattle.definite_assign.proofs.homes.add_result.Goals as goal

pub overflow_cast-place : goal.overflow_cast-place
overflow_cast-place c =
    let within = place_within c.args.func.now.content c.args.number c.args.index c.args.inst.now c.requires.stands in
    omega (arith, within, c.requires.place, c.requires.small.few_instructions)

pub returns-in_ok-push : goal.returns-in_ok-push
returns-in_ok-push c =
    let some : is_some c.args.inst.now.result ≡ true = cc (c.result.ensures, c.is_some.ensures, c.if-is_some.true) in
    rw c.in_ok-push.ensures.items
    (homes_pushed c.args.func.now.content c.args.number c.args.index c.args.place c.args.inst.now c.args.homes.now.items c.requires.place c.requires.stands some c.requires.homes)

pub returns-else-is_some : goal.returns-else-is_some
returns-else-is_some c =
    let none : is_some c.args.inst.now.result ≡ false = cc (c.result.ensures, c.is_some.ensures, c.if-is_some.false) in
    homes_kept c.args.func.now.content c.args.number c.args.index c.args.place c.args.inst.now c.args.homes.now.items c.requires.place c.requires.stands none c.requires.homes
