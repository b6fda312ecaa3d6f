use Rattle.std.proofs.Common.{◌≡◌, sym, subst}
use Rattle.std.specs.Prelude.{map, IfSome}
use Rattle.ir_ast.specs.declared.ops.Operand.{Operand}
use Rattle.base_tables.specs.Seen.{seen_shape}
use Rattle.base_tables.proofs.OriginLemmas.{origin_in-step}
use Rattle.base_tables.proofs.origins.origin_after.Goals as goal
use Rattle.ir_ast.specs.Operands.{named}

pub returns-in-Some : goal.returns-in-Some
returns-in-Some c =
    let kinds = map seen_shape c.args.shapes.now in
    subst (λ (o : Operand). IfSome c.origin_among.result (λ origin. origin ≡ o))
    (sym (origin_in-step kinds (named c.args.value) c.in-Some.operand (sym c.in-Some.ensures)))
    c.origin_among.ensures
