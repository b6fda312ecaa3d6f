use Rattle.std.proofs.lemmas.Option.{slice_get-get_or}
use Rattle.statepoint_verify.proofs.JudgeLemmas.{facts_inside, judged_step}
use Rattle.statepoint_verify.proofs.pairs.judged.Goals as goal

pub code_of-code-requires : goal.code_of-code-requires
code_of-code-requires c =
    facts_inside c.args.func.now.content c.args.used.now c.args.facts.now c.loop-number.number c.requires.facts c.loop-number-test.true

pub loop-number-preserved : goal.loop-number-preserved
loop-number-preserved c =
    judged_step c.args.func.now.content c.args.used.now c.args.facts.now c.loop-number.number _ c.code_of-code.result c.loop-number.marks.items c.mark_by.new.marks.items
    c.requires.facts c.requires.uses (slice_get-get_or c.args.used.now c.loop-number.number _ c.loop-number-test.true) c.code_of-code.ensures
    c.in_ok-mark_by.ensures c.loop-number.invariant
