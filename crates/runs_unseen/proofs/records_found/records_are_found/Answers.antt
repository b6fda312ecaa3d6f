use Rattle.runs_unseen.proofs.records_found.WaitingLaws as laws
use Rattle.runs_unseen.proofs.records_found.records_are_found.Goals as goal

pub returns : goal.returns
returns c = λ content sound plan bound stands frame held waiting. laws.record_is_found content sound plan bound stands frame held waiting
