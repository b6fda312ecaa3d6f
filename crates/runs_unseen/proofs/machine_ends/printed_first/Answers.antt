use Rattle.runs_unseen.proofs.machine_ends.PrintLaws as laws
use Rattle.runs_unseen.proofs.machine_ends.printed_first.Goals as goal

pub returns : goal.returns
returns c = laws.printed_first
