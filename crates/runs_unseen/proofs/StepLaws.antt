-- The laws of the lines that wait, return, or took effect before, each proved in a module of its own.
use Rattle.std.proofs.Common.{refl}
use Rattle.move_plan.specs.Plans.{go}
use Rattle.object_meaning.specs.TargetRuns.{target_setting}
use Rattle.stackmap_write.specs.ModuleMaps.{map_of}
use Rattle.machine_meaning.specs.Code.{machinery_of}
use Rattle.moves_unseen.specs.Waits.{CallsFollow, HelpersFollow, NewObjectsFollow, PollsFollow, ReturnsFollow, SkipsFollow, TasksFollow}
use Rattle.runs_unseen.proofs.frames_spilled.SpillLaws.{spills}
use Rattle.runs_unseen.proofs.frames_spilled.WaitLaws.{waits}
use Rattle.runs_unseen.proofs.calls_unseen.CallSteps as calling
use Rattle.runs_unseen.proofs.calls_unseen.StatesWaiting.{states_wait}
use Rattle.runs_unseen.proofs.calls_unseen.TaskSteps as starting
use Rattle.runs_unseen.proofs.events_unseen.ObjectSteps as making
use Rattle.runs_unseen.proofs.events_unseen.PollSteps as polling
use Rattle.runs_unseen.proofs.helpers_unseen.HelperSteps as helping
use Rattle.runs_unseen.proofs.helpers_unseen.SkipLaws.{skip_follows}
use Rattle.runs_unseen.proofs.returns_unseen.ReturnSteps.{return_follows}

pub calls_follow : CallsFollow
calls_follow = calling.calls_follow (states_wait waits spills)

pub tasks_follow : TasksFollow
tasks_follow = starting.tasks_follow (states_wait waits spills)

pub returns_follow : ReturnsFollow
returns_follow = λ content sound plan bound state extra related line rest is due. return_follows content sound (map_of content) plan bound state extra related line rest is due

pub new_objects_follow : NewObjectsFollow
new_objects_follow = λ content sound plan bound state extra related line rest is due. making.new_objects_follow content sound plan bound state extra related line rest is due

pub polls_follow : PollsFollow
polls_follow = λ content sound plan bound state extra related line rest is due. polling.polls_follow content sound plan bound state extra related line rest is due

pub helpers_follow : HelpersFollow
helpers_follow = λ content sound plan bound state extra related line rest is due.
    helping.helpers_follow content sound (machinery_of content (map_of content) plan bound) (target_setting content (go plan) bound) refl state extra related line rest is due

pub skips_follow : SkipsFollow
skips_follow = λ content sound plan bound state extra related line rest is due.
    skip_follows content (machinery_of content (map_of content) plan bound) (target_setting content (go plan) bound) state extra related line rest is due
