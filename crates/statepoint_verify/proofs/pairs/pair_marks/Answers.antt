use Rattle.std.proofs.Common.{◌∙◌, ap, subst, List, length}
use Rattle.std.specs.List.{flat_map}
use Rattle.used_pairs.specs.declared.uses.UsedPair.{UsedPair}
use Rattle.statepoint_verify.specs.Judged.{AreJudged, asks_for}
use Rattle.statepoint_verify.proofs.JudgeLemmas.{all_askable, judged_all}
use Rattle.statepoint_verify.proofs.pairs.pair_marks.Goals as goal
use Rattle.std.proofs.lemmas.Result.{IfOk-weaker}

pub of-requires-clause-asks : goal.of-requires-clause-asks
of-requires-clause-asks c =
    all_askable c.args.func.now.content c.in_ok-used.used.items c.deref-2.result.now
    (c.deref-2.ensures.value ∙ c.in_ok-asks.ensures ∙ ap (flat_map asks_for) c.deref.ensures.value)
    (λ pair there. (c.in_ok-used.ensures pair).0 there)

pub returns : goal.returns
returns c =
    let func = c.args.func.now.content in
    IfOk-weaker c.judged.result _ _
    (λ marks are. judged_all func c.in_ok-used.used.items marks.items (λ pair. ((c.in_ok-used.ensures pair).0, (c.in_ok-used.ensures pair).1))
    (subst (λ (xs : List UsedPair). AreJudged func xs (length xs) marks.items) c.deref-3.ensures.value are)) c.judged.ensures
