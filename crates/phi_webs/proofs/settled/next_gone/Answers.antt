use Rattle.phi_webs.specs.Settled.{web_of}
use Rattle.phi_webs.proofs.LookLemmas.{some_before, nothing_before}
use Rattle.phi_webs.proofs.settled.next_gone.Goals as goal

pub returns-in-None-clause-some : goal.returns-in-None-clause-some
returns-in-None-clause-some c =
    some_before c.args.ups.now.items c.next_gone.new.ups.items (web_of c.args.phis.now) c.first_trivial.result c.next_gone.ensures.keeps
    c.first_trivial.ensures.some

pub returns-in-None-clause-none : goal.returns-in-None-clause-none
returns-in-None-clause-none c =
    nothing_before c.args.ups.now.items c.next_gone.new.ups.items (web_of c.args.phis.now) c.first_trivial.result c.next_gone.ensures.keeps
    c.first_trivial.ensures.none
