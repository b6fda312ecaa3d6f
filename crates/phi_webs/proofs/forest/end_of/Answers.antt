use Rattle.std.proofs.Common.{List, ℕ, subst}
use Rattle.phi_webs.specs.Forests.{IsEnd}
use Rattle.phi_webs.proofs.forest.end_of.Goals as goal

pub shorten-requires : goal.shorten-requires
shorten-requires c =
    subst (λ (ups : List ℕ). IsEnd ups c.args.name c.climbed-end.result) c.deref.ensures.value c.climbed-end.ensures

pub returns-clause-end : goal.returns-clause-end
returns-clause-end c =
    subst (λ (ups : List ℕ). IsEnd ups c.args.name c.climbed-end.result) c.deref.ensures.value c.climbed-end.ensures
