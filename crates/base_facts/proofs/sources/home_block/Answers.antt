use Rattle.std.proofs.Common.{◌≡◌, ◌∙◌, List, Option, Some, None, ap, sym, length}
use Rattle.fact_tables.specs.declared.homes.Home.{Home}
use Rattle.fact_tables.specs.Homes.{home_in}
use Rattle.base_facts.proofs.SourceLemmas.{no_home, line_home}
use Rattle.base_facts.proofs.sources.home_block.Goals as goal
use Rattle.std.proofs.lemmas.Bool.{ltb-false}

pub returns-in-None : goal.returns-in-None
returns-in-None c =
    let homes = c.args.tables.now.homes.items in
    let none : home_in homes c.args.value ≡ None = ap (λ (hs : List (Option Home)). home_in hs c.args.value) (sym c.deref.ensures.value) ∙ sym c.home_of.ensures ∙ c.in-None.is in
    no_home c.args.func.now.content homes c.args.value c.requires.tables.homes none c.requires.some

pub returns-else-is_argument : goal.returns-else-is_argument
returns-else-is_argument c =
    let homes = c.args.tables.now.homes.items in
    let found : home_in homes c.args.value ≡ Some c.in-Some.home = ap (λ (hs : List (Option Home)). home_in hs c.args.value) (sym c.deref.ensures.value) ∙ sym c.home_of.ensures ∙ c.in-Some.is in
    line_home c.args.func.now.content homes c.args.value c.in-Some.home c.requires.tables.homes found
    (ltb-false c.args.value (length c.args.func.now.content.args) (sym c.is_argument.ensures ∙ c.if-is_argument.false))
