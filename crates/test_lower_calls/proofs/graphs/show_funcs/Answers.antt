use Rattle.ir_ast.specs.Formed.{IsFormed}
use Rattle.ir_types.proofs.FirstLemmas.{all_at, content_at}
use Rattle.test_lower_calls.proofs.graphs.show_funcs.Goals as goal

pub show_func-requires : goal.show_func-requires
show_func-requires g c =
    all_at IsFormed c.args.whole.now.content.funcs c.loop-func.func-index c.func-item.result.content c.requires
    (content_at c.funcs-func-items.result.now c.args.whole.now.content.funcs c.loop-func.func-index c.func-item.result
    c.funcs-func-items.ensures.content c.loop-func-test.true c.func-item.is)
