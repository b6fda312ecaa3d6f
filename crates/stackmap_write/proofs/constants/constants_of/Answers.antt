use Rattle.std.proofs.Common.{◌≤◌, ◌∙◌, arith, ap, sym, fold, length}
use Rattle.std.specs.List.{flat_map}
use Rattle.std.proofs.lemmas.List.{length-map}
use Rattle.std.proofs.Math.ListN.{drop_of_length-le}
use Rattle.ir_ast.specs.Funcs.{content_of}
use Rattle.stackmap_write.specs.Constants.{large_of, with_constant}
use Rattle.stackmap_write.proofs.RecordLemmas.{function_numbers}
use Rattle.stackmap_write.proofs.constants.constants_of.Goals as goal

pub loop-func-preserved : goal.loop-func-preserved
loop-func-preserved c =
    function_numbers _ _ _ c.funcs-funcs.result.now c.args.module.now.content.funcs c.loop-func.func-index c.func-item.result
    c.funcs-funcs.ensures.content c.loop-func-test.true c.func-item.is c.in_ok-add_function.ensures c.loop-func.invariant

pub returns : goal.returns
returns c =
    let contents = c.args.module.now.content.funcs in
    let over : length contents ≤ c.loop-func.func-index = omega (arith, c.loop-func-test.false, ap length c.funcs-funcs.ensures.content, length-map c.funcs-funcs.result.now content_of) in
    ap (λ rest. fold with_constant c.loop-func.constants.keys (flat_map large_of rest)) (sym (drop_of_length-le contents over)) ∙ c.loop-func.invariant
