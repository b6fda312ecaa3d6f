use Rattle.std.proofs.Common.{◌≡◌, ℕ, length, subst, arith}
use Rattle.std.proofs.lemmas.Option.{slice_get-get_or}
use Rattle.place_facts.specs.Asked.{KnowsAsks}
use Rattle.place_facts.proofs.AskedLemmas.{asked_none, asked_more}
use Rattle.place_facts.proofs.asked.asked_by.Goals as goal

pub loop-question-init : goal.loop-question-init
loop-question-init c =
    asked_none c.args.func.now.content c.args.questions.now c.nothing_asked-asked.result c.nothing_asked-asked.ensures.numbers c.nothing_asked-asked.ensures.asks

pub loop-question-preserved : goal.loop-question-preserved
loop-question-preserved c =
    asked_more c.args.func.now.content c.args.questions.now c.loop-question.question-index _ c.loop-question.asked c.add.new.asked
    (slice_get-get_or c.args.questions.now c.loop-question.question-index _ c.loop-question-test.true) c.in_ok-add.ensures c.loop-question.invariant

pub returns : goal.returns
returns c =
    let all : c.loop-question.question-index ≡ length c.args.questions.now = omega arith in
    subst (λ (n : ℕ). KnowsAsks c.args.func.now.content c.args.questions.now n c.loop-question.asked) all c.loop-question.invariant
