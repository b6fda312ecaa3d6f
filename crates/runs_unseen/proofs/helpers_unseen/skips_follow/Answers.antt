use Rattle.move_plan.specs.Plans.{go}
use Rattle.object_meaning.specs.TargetRuns.{target_setting}
use Rattle.stackmap_write.specs.ModuleMaps.{map_of}
use Rattle.machine_meaning.specs.Code.{machinery_of}
use Rattle.runs_unseen.proofs.helpers_unseen.SkipLaws as laws
use Rattle.runs_unseen.proofs.helpers_unseen.skips_follow.Goals as goal

pub returns : goal.returns
returns c = λ content sound plan bound state extra related line rest is due.
    laws.skip_follows content (machinery_of content (map_of content) plan bound) (target_setting content (go plan) bound) state extra related line rest is due
