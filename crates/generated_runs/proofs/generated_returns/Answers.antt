use Rattle.generated_runs.proofs.Main.{generated_returns}
use Rattle.generated_runs.proofs.generated_returns.Goals as goal

pub returns : goal.returns
returns c = generated_returns
