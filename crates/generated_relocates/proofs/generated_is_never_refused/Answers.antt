use Rattle.generated_relocates.proofs.Whole.{generated_is_never_refused}
use Rattle.generated_relocates.proofs.generated_is_never_refused.Goals as goal

pub returns : goal.returns
returns c = generated_is_never_refused
