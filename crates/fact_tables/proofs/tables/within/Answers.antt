use Rattle.std.proofs.Common.{◌≡◌, ◌∙◌, ap, sym, subst, List, Option, Some, None, ℕ}
use Rattle.std.specs.Prelude.{max}
use Rattle.pair_facts.specs.Lines.{lines_at}
use Rattle.pair_facts.specs.Segments.{start_at}
use Rattle.fact_tables.specs.declared.homes.Home.{Home}
use Rattle.fact_tables.specs.Homes.{home_in}
use Rattle.fact_tables.specs.Tables.{FindsWithin, first_of}
use Rattle.fact_tables.proofs.TableLemmas.{finds_within, finds_none}
use Rattle.fact_tables.proofs.tables.within.Goals as goal

pub returns-in-Some : goal.returns-in-Some
returns-in-Some c =
    let func = c.args.func.now.content in
    let homes = c.args.tables.now.homes.items in
    let found : home_in homes c.args.value ≡ Some c.in-Some.home =
    ap (λ (all : List (Option Home)). home_in all c.args.value) (sym c.deref.ensures.value) ∙ sym c.home_of.ensures ∙ c.in-Some.is in
    let first : c.max-first.result ≡ first_of (lines_at func c.args.block) c.args.place =
    c.max-first.ensures ∙ ap (λ (n : ℕ). max n c.front_of.result) c.start_at.ensures ∙ ap (max (start_at (lines_at func c.args.block) c.args.place)) c.front_of.ensures in
    subst (FindsWithin (lines_at func c.args.block) c.args.place c.args.value) (sym c.place_between.ensures)
    (finds_within func homes c.args.block c.args.place c.args.value c.max-first.result c.in-Some.home c.requires.tables.homes found first)

pub returns-in-None : goal.returns-in-None
returns-in-None c =
    let func = c.args.func.now.content in
    let homes = c.args.tables.now.homes.items in
    let none : home_in homes c.args.value ≡ None =
    ap (λ (all : List (Option Home)). home_in all c.args.value) (sym c.deref.ensures.value) ∙ sym c.home_of.ensures ∙ c.in-None.is in
    finds_none func homes c.args.block c.args.place c.args.value c.requires.tables.homes none
