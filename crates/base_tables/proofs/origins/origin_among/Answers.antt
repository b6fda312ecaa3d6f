use Rattle.std.proofs.Common.{◌≡◌, sym, subst}
use Rattle.std.specs.Prelude.{map, IfSome}
use Rattle.ir_ast.specs.declared.ops.Operand.{Operand}
use Rattle.base_tables.specs.Kinds.{origin_in}
use Rattle.base_tables.specs.Seen.{seen_shape}
use Rattle.base_tables.proofs.OriginLemmas.{origins_if}
use Rattle.base_tables.proofs.origins.origin_among.Goals as goal

pub returns-in-Value : goal.returns-in-Value
returns-in-Value c =
    let kinds = map seen_shape c.args.shapes.now in
    subst (λ (o : Operand). IfSome c.item_at.result (λ origin. origin ≡ origin_in kinds o)) (sym c.in-Value.is)
    (origins_if kinds c.args.before.now c.args.value c.in-Value.earlier.0 c.item_at.result c.requires c.item_at.ensures)
