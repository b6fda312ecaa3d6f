use Rattle.std.proofs.Common.{◌≡◌, ◌∙◌, Bool, List, map, sym, ap, subst, arith, take, take_all}
use Rattle.std.specs.List.{AllZip}
use Rattle.std.proofs.lemmas.Option.{slice_get-get_or}
use Rattle.base_facts.specs.declared.asks.Ask.{Ask}
use Rattle.base_facts.specs.declared.asks.Found.{Found}
use Rattle.base_facts.specs.Answers.{IsAnswered}
use Rattle.base_facts.specs.Found.{IsFound, told_by}
use Rattle.base_facts.proofs.FinalLemmas.{nothing_is_asked, found_more, told_all, all_grow, rows_inside}
use Rattle.base_facts.proofs.asks.answers.Goals as goal
use Rattle.std.proofs.lemmas.Result.{IfOk-weaker}

pub loop-ask-init : goal.loop-ask-init
loop-ask-init c =
    let func = c.args.func.now.content in
    let asked = c.nothing_asked-asked.result in
    record {
      asked = nothing_is_asked func asked c.nothing_asked-asked.ensures.facts c.nothing_asked-asked.ensures.askers c.nothing_asked-asked.ensures.failing;
      found = subst (λ (xs : List Found). AllZip (IsFound func asked) (take 0 c.args.asks.now) xs) (sym c.new-found.ensures.items) tt;
    }

pub loop-ask-preserved : goal.loop-ask-preserved
loop-ask-preserved c =
    found_more c.args.func.now.content c.loop-ask.asked c.find.new.asked c.args.asks.now c.loop-ask.ask-index _ c.loop-ask.found.items c.push.new.self.items c.in_ok-find.field-0
    (slice_get-get_or c.args.asks.now c.loop-ask.ask-index _ c.loop-ask-test.true) c.in_ok-push.ensures.items c.loop-ask.invariant c.in_ok-find.ensures

pub find-requires-clause-ask : goal.find-requires-clause-ask
find-requires-clause-ask c = c.requires.asks c.loop-ask.ask-index _ c.loop-ask-test.true

pub missed-requires : goal.missed-requires
missed-requires c = rows_inside c.args.func.now.content c.close.new.asked c.in_ok-close.ensures.asked

pub returns : goal.returns
returns c =
    let func = c.args.func.now.content in
    let asks = c.args.asks.now in
    let found = c.loop-ask.found.items in
    let marks = c.in_ok-marks.marks.items in
    let all : take c.loop-ask.ask-index asks ≡ asks = take_all c.loop-ask.ask-index asks (omega arith) in
    let before = subst (λ (xs : List Ask). AllZip (IsFound func c.loop-ask.asked) xs found) all c.loop-ask.invariant.found in
    IfOk-weaker c.told.result _ _
    (λ answers is.
    subst (λ (xs : List Bool). AllZip (IsAnswered func) asks xs)
    (sym (is ∙ ap (λ (ms : List Bool). map (told_by ms) c.deref.result.now) c.deref-2.ensures.value ∙ ap (map (told_by marks)) c.deref.ensures.value))
    (told_all func c.close.new.asked marks asks found c.in_ok-close.ensures.asked c.in_ok-close.ensures.closed c.in_ok-marks.ensures
    (all_grow func c.loop-ask.asked c.close.new.asked asks found c.in_ok-close.ensures.grows before))) c.told.ensures
