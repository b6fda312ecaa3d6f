use Rattle.std.proofs.Common.{refl}
use Rattle.generated_forms.proofs.Ends.{ends_from}
use Rattle.module_gen.proofs.shapes.merging.Goals as goal

pub block-requires : goal.block-requires
block-requires c = ends_from _ refl

pub block-requires-2 : goal.block-requires-2
block-requires-2 c = ends_from _ refl
