use Rattle.std.proofs.Common.{◌∙◌, ap}
use Rattle.std.specs.Prelude.{map}
use Rattle.base_tables.specs.Kinds.{origin_in}
use Rattle.base_tables.specs.Seen.{seen_shape}
use Rattle.base_tables.proofs.OriginLemmas.{found_kept}
use Rattle.base_tables.proofs.origins.keep.Goals as goal

pub returns-then-value-len : goal.returns-then-value-len
returns-then-value-len c =
    let kinds = map seen_shape c.args.shapes.now in
    found_kept kinds c.args.found.now.items c.in-Value.value.0 c.args.origin c.requires.found
    (c.requires.origin ∙ ap (λ operand. origin_in kinds operand) c.in-Value.is)
