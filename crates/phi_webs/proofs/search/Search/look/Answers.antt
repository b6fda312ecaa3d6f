use Rattle.phi_webs.proofs.LookLemmas.{other_before}
use Rattle.phi_webs.specs.Settled.{phi_of}
use Rattle.phi_webs.proofs.search.Search.look.Goals as goal

pub returns-in-Some-clause-some : goal.returns-in-Some-clause-some
returns-in-Some-clause-some c =
    other_before c.args.ups.now.items c.watches_on.new.ups.items (phi_of c.args.phi) c.in-Some.value c.watches_on.ensures c.in-Some.ensures.some
