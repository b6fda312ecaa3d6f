use Rattle.std.proofs.Common.{◌∙◌, sym, subst, Option, ℕ}
use Rattle.pair_facts.specs.Lines.{lines_at}
use Rattle.base_facts.specs.Edges.{FindsPhi}
use Rattle.base_facts.proofs.EdgeLemmas.{along_phi, along_other}
use Rattle.base_facts.proofs.edges.value_along.Goals as goal

pub incoming-requires-clause-place : goal.incoming-requires-clause-place
incoming-requires-clause-place c =
    let is = subst (λ (o : Option ℕ). FindsPhi (lines_at c.args.func.now.content c.args.block) c.args.value o) c.in-Some.is c.phi_of.ensures in
    is.inside

pub returns-in-Some : goal.returns-in-Some
returns-in-Some c =
    let lines = lines_at c.args.func.now.content c.args.block in
    let is = subst (λ (o : Option ℕ). FindsPhi lines c.args.value o) c.in-Some.is c.phi_of.ensures in
    c.incoming.ensures ∙ sym (along_phi lines c.args.from.0 c.args.value c.in-Some.place is)

pub returns-in-None : goal.returns-in-None
returns-in-None c =
    let lines = lines_at c.args.func.now.content c.args.block in
    let none = subst (λ (o : Option ℕ). FindsPhi lines c.args.value o) c.in-None.is c.phi_of.ensures in
    sym (along_other lines c.args.from.0 c.args.value none)
