use Rattle.std.proofs.Common.{◌≡◌, ◌∙◌, Bool, List, Option, Some, None, ap, sym, subst, ℕ, nat_lt}
use Rattle.std.specs.Prelude.{◌==◌, ◌&&◌, MatchBool}
use Rattle.object_meaning.specs.Jumps.{phi_count}
use Rattle.pair_facts.specs.Lines.{lines_at, named}
use Rattle.fact_tables.specs.declared.homes.Home.{Home}
use Rattle.fact_tables.specs.Homes.{home_in}
use Rattle.place_facts.specs.Phis.{IsOfPhi, IsLeft}
use Rattle.place_facts.proofs.PhiLemmas.{home_phi, no_phi}
use Rattle.place_facts.proofs.phis.is_value_of_phi.Goals as goal

pub returns-in-Some : goal.returns-in-Some
returns-in-Some c =
    let func = c.args.func.now.content in
    let homes = c.args.tables.now.homes.items in
    let home = c.in-Some.home in
    let found : home_in homes c.args.value ≡ Some home = ap (λ (hs : List (Option Home)). home_in hs c.args.value) (sym c.deref.ensures.value) ∙ sym c.home_of.ensures ∙ c.in-Some.is in
    let is : c.is_below.result ≡ (home.block == c.args.block && nat_lt home.place (phi_count (lines_at func c.args.block))) =
    c.is_below.ensures ∙ ap (λ (front : ℕ). home.block == c.args.block && nat_lt home.place front) c.front_of.ensures in
    subst (λ (b : Bool). MatchBool b (IsOfPhi func c.args.block (named c.args.value)) (IsLeft (lines_at func c.args.block) (named c.args.value))) (sym is)
    (home_phi func homes c.args.block c.args.value home c.requires.tables.homes found)

pub returns-in-None : goal.returns-in-None
returns-in-None c =
    let homes = c.args.tables.now.homes.items in
    let none : home_in homes c.args.value ≡ None = ap (λ (hs : List (Option Home)). home_in hs c.args.value) (sym c.deref.ensures.value) ∙ sym c.home_of.ensures ∙ c.in-None.is in
    no_phi c.args.func.now.content homes c.args.block c.args.value c.requires.tables.homes none
