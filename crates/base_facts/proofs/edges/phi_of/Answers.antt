use Rattle.std.proofs.Common.{◌≡◌, ◌∙◌, ap, sym, subst, List, Option, Some, None}
use Rattle.pair_facts.specs.Lines.{lines_at}
use Rattle.fact_tables.specs.declared.homes.Home.{Home}
use Rattle.fact_tables.specs.Homes.{home_in}
use Rattle.base_facts.specs.Edges.{FindsPhi, place_below}
use Rattle.base_facts.proofs.EdgeLemmas.{finds_phi, finds_no_phi}
use Rattle.base_facts.proofs.edges.phi_of.Goals as goal

pub returns-in-Some : goal.returns-in-Some
returns-in-Some c =
    let func = c.args.func.now.content in
    let homes = c.args.tables.now.homes.items in
    let found : home_in homes c.args.value ≡ Some c.in-Some.home =
    ap (λ (all : List (Option Home)). home_in all c.args.value) (sym c.deref.ensures.value) ∙ sym c.home_of.ensures ∙ c.in-Some.is in
    subst (FindsPhi (lines_at func c.args.block) c.args.value)
    (sym (c.place_below.ensures ∙ ap (place_below c.in-Some.home c.args.block) c.front_of.ensures))
    (finds_phi func homes c.args.block c.args.value c.in-Some.home c.requires.tables.homes found)

pub returns-in-None : goal.returns-in-None
returns-in-None c =
    let func = c.args.func.now.content in
    let homes = c.args.tables.now.homes.items in
    let none : home_in homes c.args.value ≡ None =
    ap (λ (all : List (Option Home)). home_in all c.args.value) (sym c.deref.ensures.value) ∙ sym c.home_of.ensures ∙ c.in-None.is in
    finds_no_phi func homes c.args.block c.args.value c.requires.tables.homes none
