use Rattle.std.proofs.Common.{◌≡◌, ◌<◌, ◌∙◌, ap, subst, Option, arith, ℕ}
use Rattle.pair_facts.specs.Lines.{lines_at}
use Rattle.pair_facts.specs.Segments.{start_at}
use Rattle.base_facts.specs.declared.facts.Fact.{Fact}
use Rattle.base_facts.specs.Facts.{operand_in, base_in}
use Rattle.base_facts.specs.Settled.{finds_wanted}
use Rattle.base_facts.proofs.SettleLemmas.{before_group, before_base, settles_front}
use Rattle.base_facts.proofs.settle.settled_before.Goals as goal

pub returns-then-start_at-gt0 : goal.returns-then-start_at-gt0
returns-then-start_at-gt0 c = λ front sound.
    let lines = lines_at c.args.func.now.content c.args.asked.block in
    let some : 0 < start_at lines c.args.asked.place = omega (arith, c.start_at.ensures, c.if-start_at-gt0.true) in
    before_group lines front c.args.asked.place (operand_in c.args.asked.pointer) (base_in c.args.asked.base) some c.requires.given c.requires.lost

pub returns-in-Some : goal.returns-in-Some
returns-in-Some c = λ front sound.
    let lines = lines_at c.args.func.now.content c.args.asked.block in
    let none : start_at lines c.args.asked.place ≡ 0 = omega (arith, c.start_at.ensures, c.if-start_at-gt0.false) in
    before_base lines front c.args.asked.place (operand_in c.args.asked.pointer) c.args.asked.base _ none c.requires.given
    (subst (λ (o : Option ℕ). finds_wanted lines c.args.asked.place c.args.asked.base o) c.in-Some.is c.base_within.ensures)

pub returns-in-None : goal.returns-in-None
returns-in-None c =
    let func = c.args.func.now.content in
    let lines = lines_at func c.args.asked.block in
    let none : start_at lines c.args.asked.place ≡ 0 = omega (arith, c.start_at.ensures, c.if-start_at-gt0.false) in
    settles_front func c.args.asked c.moved.result
    (c.moved.ensures ∙ ap (λ (n : ℕ). let moved : Fact = record c.args.asked { place = n } in moved) c.front_of.ensures)
    c.requires.place none c.requires.given
    (subst (λ (o : Option ℕ). finds_wanted lines c.args.asked.place c.args.asked.base o) c.in-None.is c.base_within.ensures)
