use Rattle.std.proofs.Common.{◌∙◌, sym, subst, arith}
use Rattle.std.proofs.lemmas.Bool.{ltb-true, ltb-false}
use Rattle.object_meaning.specs.Jumps.{phi_count}
use Rattle.pair_facts.specs.Lines.{lines_at}
use Rattle.base_facts.proofs.SettleLemmas.{head_stands}
use Rattle.place_facts.specs.Asks.{AsksFor}
use Rattle.place_facts.proofs.AskLemmas.{numbered_inside, asks_group}
use Rattle.place_facts.proofs.asking.ask_for.Goals as goal

pub is_phi_at-requires-clause-block : goal.is_phi_at-requires-clause-block
is_phi_at-requires-clause-block c =
    (numbered_inside c.args.func.now.content c.args.question.place c.args.spot.block c.args.spot.place c.requires.spot).block_inside

pub ask_at_phi-requires-clause-phi : goal.ask_at_phi-requires-clause-phi
ask_at_phi-requires-clause-phi c =
    ltb-true c.args.spot.place (phi_count (lines_at c.args.func.now.content c.args.spot.block)) (sym c.is_phi_at.ensures ∙ c.if-is_phi_at.true)

pub head_at-requires-clause-block : goal.head_at-requires-clause-block
head_at-requires-clause-block c =
    (numbered_inside c.args.func.now.content c.args.question.place c.args.spot.block c.args.spot.place c.requires.spot).block_inside

pub head_at-requires-clause-place : goal.head_at-requires-clause-place
head_at-requires-clause-place c =
    (numbered_inside c.args.func.now.content c.args.question.place c.args.spot.block c.args.spot.place c.requires.spot).place_inside

pub ask-requires : goal.ask-requires
ask-requires c =
    let inside = numbered_inside c.args.func.now.content c.args.question.place c.args.spot.block c.args.spot.place c.requires.spot in
    let head = head_stands (lines_at c.args.func.now.content c.args.spot.block) c.args.spot.place c.in-Some.head (sym c.head_at.ensures ∙ c.in-Some.is) in
    record { block_inside = inside.block_inside; place_inside = omega (arith, inside.place_inside, head.1) }

pub returns-in-Some : goal.returns-in-Some
returns-in-Some c =
    subst (AsksFor c.args.func.now.content c.args.question) (sym c.ask.ensures)
    (asks_group c.args.func.now.content c.args.question c.args.spot.block c.args.spot.place c.in-Some.head c.requires.spot (sym c.head_at.ensures ∙ c.in-Some.is))

pub ask_at_line-requires-clause-past : goal.ask_at_line-requires-clause-past
ask_at_line-requires-clause-past c =
    ltb-false c.args.spot.place (phi_count (lines_at c.args.func.now.content c.args.spot.block)) (sym c.is_phi_at.ensures ∙ c.if-is_phi_at.false)

pub ask_at_line-requires-clause-none : goal.ask_at_line-requires-clause-none
ask_at_line-requires-clause-none c = sym c.head_at.ensures ∙ c.in-None.is
