use Rattle.std.proofs.Common.{◌<◌, ◌∙◌, length, Some, ap, sym, arith, get_or}
use Rattle.std.specs.Prelude.{map}
use Rattle.std.proofs.lemmas.List.{length-map}
use Rattle.std.proofs.lemmas.Option.{slice_get-get_or}
use Rattle.list_laws.proofs.Places.{get_map}
use Rattle.derived_values.specs.Givens.{Given}
use Rattle.base_tables.specs.declared.shapes.Shape.{Shape}
use Rattle.base_tables.specs.declared.shapes.Shape.TheVariants.{Plain}
use Rattle.base_tables.specs.Seen.{seen_shape}
use Rattle.base_tables.specs.Users.{given_kind}
use Rattle.base_tables.proofs.derived.ShapedByGivers.giver.Goals as goal

pub returns : goal.returns
returns c =
    let shapes = c.args.self.now.0.now in
    let value = c.args.value in
    let below : value < length shapes = omega (arith, c.requires, length-map (map seen_shape shapes) given_kind, length-map shapes seen_shape) in
    let shape : Shape = get_or shapes value Plain in
    get_map given_kind (map seen_shape shapes) value (seen_shape shape) (get_map seen_shape shapes value shape (slice_get-get_or shapes value Plain below))
    ∙ ap (λ (given : Given). Some given) (sym c.giver_of.ensures)
