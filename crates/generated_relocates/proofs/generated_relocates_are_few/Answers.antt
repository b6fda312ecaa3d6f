use Rattle.generated_relocates.proofs.Whole.{generated_relocates_are_few}
use Rattle.generated_relocates.proofs.generated_relocates_are_few.Goals as goal

pub returns : goal.returns
returns c = generated_relocates_are_few
