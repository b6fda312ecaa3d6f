use Rattle.generated_source.proofs.Whole.{generated_is_source}
use Rattle.generated_source.proofs.generated_is_source.Goals as goal

pub returns : goal.returns
returns c = generated_is_source
