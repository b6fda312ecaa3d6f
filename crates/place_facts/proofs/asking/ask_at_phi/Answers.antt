use Rattle.std.proofs.Common.{◌≡◌, Bool, true, false, sym, subst, arith}
use Rattle.std.specs.Prelude.{MatchBool}
use Rattle.pair_facts.specs.Lines.{lines_at}
use Rattle.place_facts.specs.Asks.{AsksFor}
use Rattle.place_facts.specs.Phis.{IsOfPhi, IsBaseOfPhi, IsLeft, IsBaseLeft}
use Rattle.place_facts.proofs.AskLemmas.{numbered_inside, asks_front, asks_nothing}
use Rattle.place_facts.proofs.ComeLemmas.{phi_missed, phi_base_missed}
use Rattle.place_facts.proofs.asking.ask_at_phi.Goals as goal

-- what a test says by its answer
told : (P Q : Type 0) (test answer : Bool) → test ≡ answer → MatchBool test P Q → MatchBool answer P Q
told P Q test answer same is = subst (λ (b : Bool). MatchBool b P Q) same is

pub is_of_phi-requires-clause-block : goal.is_of_phi-requires-clause-block
is_of_phi-requires-clause-block c =
    (numbered_inside c.args.func.now.content c.args.question.place c.args.spot.block c.args.spot.place c.requires.spot).block_inside

pub ask_for_nothing-requires : goal.ask_for_nothing-requires
ask_for_nothing-requires c = record {
  block_inside = (numbered_inside c.args.func.now.content c.args.question.place c.args.spot.block c.args.spot.place c.requires.spot).block_inside;
  place_inside = omega arith;
}

pub returns-then-is_of_phi : goal.returns-then-is_of_phi
returns-then-is_of_phi c =
    let func = c.args.func.now.content in
    let own = told (IsOfPhi func c.args.spot.block c.args.question.pointer) (IsLeft (lines_at func c.args.spot.block) c.args.question.pointer) c.is_of_phi.result true c.if-is_of_phi.true c.is_of_phi.ensures in
    subst (AsksFor func c.args.question) (sym c.ask_for_nothing.ensures)
    (asks_nothing func c.args.question c.args.spot.block c.args.spot.place c.requires.spot c.requires.phi
    (λ front arrives. phi_missed func c.args.spot.block c.args.question.pointer c.args.question.base front own arrives))

pub is_base_of_phi-requires-clause-block : goal.is_base_of_phi-requires-clause-block
is_base_of_phi-requires-clause-block c =
    (numbered_inside c.args.func.now.content c.args.question.place c.args.spot.block c.args.spot.place c.requires.spot).block_inside

pub ask_for_nothing-requires-then-is_base_of_phi : goal.ask_for_nothing-requires-then-is_base_of_phi
ask_for_nothing-requires-then-is_base_of_phi c = record {
  block_inside = (numbered_inside c.args.func.now.content c.args.question.place c.args.spot.block c.args.spot.place c.requires.spot).block_inside;
  place_inside = omega arith;
}

pub returns-then-is_base_of_phi : goal.returns-then-is_base_of_phi
returns-then-is_base_of_phi c =
    let func = c.args.func.now.content in
    let own = told (IsBaseOfPhi func c.args.spot.block c.args.question.base) (IsBaseLeft (lines_at func c.args.spot.block) c.args.question.base) c.is_base_of_phi.result true c.if-is_base_of_phi.true c.is_base_of_phi.ensures in
    subst (AsksFor func c.args.question) (sym c.ask_for_nothing-then-is_base_of_phi.ensures)
    (asks_nothing func c.args.question c.args.spot.block c.args.spot.place c.requires.spot c.requires.phi
    (λ front arrives. phi_base_missed func c.args.spot.block c.args.question.pointer c.args.question.base front own arrives))

pub ask-requires : goal.ask-requires
ask-requires c = record {
  block_inside = (numbered_inside c.args.func.now.content c.args.question.place c.args.spot.block c.args.spot.place c.requires.spot).block_inside;
  place_inside = omega arith;
}

pub returns : goal.returns
returns c =
    let func = c.args.func.now.content in
    let left = told (IsOfPhi func c.args.spot.block c.args.question.pointer) (IsLeft (lines_at func c.args.spot.block) c.args.question.pointer) c.is_of_phi.result false c.if-is_of_phi.false c.is_of_phi.ensures in
    let base_left = told (IsBaseOfPhi func c.args.spot.block c.args.question.base) (IsBaseLeft (lines_at func c.args.spot.block) c.args.question.base) c.is_base_of_phi.result false c.if-is_base_of_phi.false c.is_base_of_phi.ensures in
    subst (AsksFor func c.args.question) (sym c.ask.ensures)
    (asks_front func c.args.question c.args.spot.block c.args.spot.place c.requires.spot c.requires.phi left base_left)
