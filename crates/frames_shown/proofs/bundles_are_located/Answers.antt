use Rattle.frames_shown.proofs.DeoptLaws as laws
use Rattle.frames_shown.proofs.bundles_are_located.Goals as goal

pub returns : goal.returns
returns c = λ content few number func defined place call stands is types group good. laws.bundle_located content few number func defined place call stands is types group good
