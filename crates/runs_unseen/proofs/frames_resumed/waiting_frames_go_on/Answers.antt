use Rattle.runs_unseen.proofs.frames_resumed.ResumeLaws as laws
use Rattle.runs_unseen.proofs.frames_resumed.waiting_frames_go_on.Goals as goal

pub returns : goal.returns
returns c = λ content sound objects stands frame held waiting answer word is_answer below. laws.goes_on content sound objects stands frame held waiting answer word is_answer below
