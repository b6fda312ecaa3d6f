-- The module with bases of a source module is a target module.
use Rattle.base_definite.proofs.DefiniteInstance.{based_is_definite}
use Rattle.rewritten_sound.specs.Shape.{BasedIsTarget}
use Rattle.rewritten_sound.proofs.shape.BasedModule.{based_typed}

pub based_is_target : BasedIsTarget
based_is_target content source = record { typed = based_typed content source; definite = based_is_definite content source }
