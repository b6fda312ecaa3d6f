use Rattle.std.proofs.Common.{refl}
use Rattle.generated_forms.proofs.Ends.{ends_from}
use Rattle.module_gen.proofs.shapes.merged.Goals as goal

pub block-requires : goal.block-requires
block-requires c = ends_from _ refl

pub block-requires-else-place-eq0 : goal.block-requires-else-place-eq0
block-requires-else-place-eq0 c = ends_from _ refl
