use Rattle.std.proofs.Common.{◌≡◌, ◌||◌, false, length, ap, ◌∙◌, arith}
use Rattle.std.proofs.lemmas.List.{get_or-replicate}
use Rattle.ir_ast.specs.Funcs.{content_of}
use Rattle.print_tables.specs.Externals.{calls}
use Rattle.print_tables.specs.Called.{external_at}
use Rattle.print_tables.proofs.called.Called.of.Goals as goal
use Rattle.std.proofs.Common.{map}

pub invariant_of-result : goal.invariant_of-result
invariant_of-result c = λ place within.
    let many : length c.mark_called.new.called ≡ 4169 = c.mark_called.ensures.0 in
    c.mark_called.ensures.1 place (omega arith)
    ∙ ap (λ before. before || calls (map content_of c.args.funcs.now) (external_at place)) (get_or-replicate 4169 place false false (omega arith))
