use Rattle.std.proofs.Common.{◌≡◌, ◌∙◌, ◌-◌, ap, sym, List, Option, Some, None}
use Rattle.fact_tables.specs.declared.homes.Home.{Home}
use Rattle.fact_tables.specs.Homes.{home_in}
use Rattle.fact_tables.proofs.TableLemmas.{home_gives, no_home_gives}
use Rattle.base_facts.proofs.steps.gives_before.Goals as goal

pub returns-in-Some : goal.returns-in-Some
returns-in-Some c =
    let func = c.args.func.now.content in
    let homes = c.args.tables.now.homes.items in
    let found : home_in homes c.args.value ≡ Some c.in-Some.home =
    ap (λ (all : List (Option Home)). home_in all c.args.value) (sym c.deref.ensures.value) ∙ sym c.home_of.ensures ∙ c.in-Some.is in
    home_gives func homes c.args.block (c.args.at - 1) c.args.value c.in-Some.home c.requires.tables.homes found ∙ sym c.is_at.ensures

pub returns-in-None : goal.returns-in-None
returns-in-None c =
    let func = c.args.func.now.content in
    let homes = c.args.tables.now.homes.items in
    let none : home_in homes c.args.value ≡ None =
    ap (λ (all : List (Option Home)). home_in all c.args.value) (sym c.deref.ensures.value) ∙ sym c.home_of.ensures ∙ c.in-None.is in
    no_home_gives func homes c.args.block (c.args.at - 1) c.args.value c.requires.tables.homes none
