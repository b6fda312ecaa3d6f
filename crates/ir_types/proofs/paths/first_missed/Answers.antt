use Rattle.std.proofs.Common.{length, ap, arith, List}
use Rattle.std.proofs.lemmas.List.{length-map}
use Rattle.ir_ast.specs.Formed.{IsFormed}
use Rattle.ir_ast.specs.Funcs.{Function, content_of}
use Rattle.ir_types.proofs.FirstLemmas.{all_at, content_at, lines_at, none_found, up_to_next, all_definite, first_found}
use Rattle.ir_types.proofs.paths.first_missed.Goals as goal

pub first_missed_in-requires : goal.first_missed_in-requires
first_missed_in-requires c =
    all_at IsFormed c.args.whole.now.content.funcs c.loop-func.func-index c.func-item.result.content c.requires
    (content_at c.funcs-func-items.result.now c.args.whole.now.content.funcs c.loop-func.func-index c.func-item.result
    c.funcs-func-items.ensures.content c.loop-func-test.true c.func-item.is)

pub loop-func-preserved : goal.loop-func-preserved
loop-func-preserved c =
    up_to_next c.args.whole.now.content.funcs c.loop-func.func-index c.func-item.result.content c.loop-func.invariant
    (content_at c.funcs-func-items.result.now c.args.whole.now.content.funcs c.loop-func.func-index c.func-item.result
    c.funcs-func-items.ensures.content c.loop-func-test.true c.func-item.is)
    (none_found c.func-item.result.content c.in_ok-line.field-0 c.in_ok-line.ensures.none c.in_default.is)

pub returns-clause-none : goal.returns-clause-none
returns-clause-none c =
    let same = ap (λ (fs : List Function). length fs) c.funcs-func-items.ensures.content in
    let long = length-map c.funcs-func-items.result.now content_of in
    all_definite c.args.whole.now.content.funcs c.loop-func.func-index c.loop-func.invariant (omega (arith, same, long, c.loop-func-test.false))

pub returns-in-Some-clause-some : goal.returns-in-Some-clause-some
returns-in-Some-clause-some c =
    first_found c.args.whole.now c.loop-func.func-index c.func-item.result c.in_ok-line.field-0 c.in-Some.line c.loop-func.invariant
    (content_at c.funcs-func-items.result.now c.args.whole.now.content.funcs c.loop-func.func-index c.func-item.result
    c.funcs-func-items.ensures.content c.loop-func-test.true c.func-item.is)
    (lines_at c.funcs-func-items.result.now c.args.whole.now.lines c.loop-func.func-index c.func-item.result
    c.funcs-func-items.ensures.lines c.loop-func-test.true c.func-item.is)
    c.in_ok-line.ensures.some c.in-Some.is
