-- What is known of a call, from its whole answer.
use Rattle.std.proofs.Common.{ℕ, List, Result, Ok, Err, OnOk, inl, inr, subst}
use Rattle.statepoint_tool.specs.Answers.{IsAnswer, IsTold, SinkSeen}
use Rattle.statepoint_tool.specs.Facts.{Facts}
use Rattle.statepoint_tool.specs.Named.{IsEnd}
use Rattle.statepoint_tool.specs.Notes.{status_of_refusal}
use Rattle.statepoint_tool.specs.Taken.{FilesSeen}
use Rattle.statepoint_tool.specs.declared.refusal.Cause.TheVariants as cause
use Rattle.statepoint_tool.specs.declared.refusal.Refusal.{Refusal}
use Rattle.statepoint_tool.specs.declared.refusal.Refusal.TheVariants as refused
use Rattle.statepoint_tool.specs.declared.status.Status.{Status}
use Rattle.statepoint_tool.specs.declared.status.Status.TheVariants as status
use Rattle.statepoint_tool.proofs.AnswerLaws.{Exactly-answer, ReadFaultCounted-answer, Says-answer, Writes-answer, write_fault-answer}
use Rattle.statepoint_tool.proofs.CauseLaws.{comes-CannotRead, comes-EndsWith, comes-HasSomeCheckFault, comes-HasSomeInputFault, comes-HasSomeMapFault, comes-HasSomeModuleFault, comes-HasSomePlanFault, comes-IsTooLong, comes-NoCommand}
use Rattle.statepoint_tool.proofs.CompleteLaws.{IsComplete-answer}
use Rattle.statepoint_tool.proofs.HeadlineLaws.{IsHeadline-answer, RunsVerified-answer, StrayIsAsked-answer}

pub Facts-answer : (words : List (List ℕ)) (files : FilesSeen) (out notes : SinkSeen) (ended : Status) → IsAnswer words files out notes ended → Facts words files out notes ended
Facts-answer words files out notes ended answer = record {
  headline = IsHeadline-answer words files out notes ended answer;
  verified_runs = RunsVerified-answer words files out notes ended answer;
  stray_asked = StrayIsAsked-answer words files out notes ended answer;
  complete = IsComplete-answer words files out notes ended answer;
  done = Exactly-answer words files out notes ended answer status.Done (λ clash. cc) (λ clash. cc) (λ given within. comes-EndsWith words given within status.Done);
  out_of_steps = Exactly-answer words files out notes ended answer status.OutOfSteps (λ clash. cc) (λ clash. cc) (λ given within. comes-EndsWith words given within status.OutOfSteps);
  trapped = Exactly-answer words files out notes ended answer status.Trapped (λ clash. cc) (λ clash. cc) (λ given within. comes-EndsWith words given within status.Trapped);
  stray = Exactly-answer words files out notes ended answer status.Stray (λ clash. cc) (λ clash. cc) (λ given within. comes-EndsWith words given within status.Stray);
  words_refused = Exactly-answer words files out notes ended answer status.WordsRefused (λ clash. cc) (λ clash. cc) (λ given within. comes-NoCommand words given);
  module_refused = Exactly-answer words files out notes ended answer status.ModuleRefused (λ clash. cc) (λ clash. cc) (comes-HasSomeModuleFault words);
  input_refused = Exactly-answer words files out notes ended answer status.InputRefused (λ clash. cc) (λ clash. cc) (comes-HasSomeInputFault words);
  plan_refused = Exactly-answer words files out notes ended answer status.PlanRefused (λ clash. cc) (λ clash. cc) (comes-HasSomePlanFault words);
  map_refused = Exactly-answer words files out notes ended answer status.MapRefused (λ clash. cc) (λ clash. cc) (comes-HasSomeMapFault words);
  said_no = Exactly-answer words files out notes ended answer status.CheckSaidNo (λ clash. cc) (λ clash. cc) (comes-HasSomeCheckFault words);
  too_long = Exactly-answer words files out notes ended answer status.TooLong (λ clash. cc) (λ clash. cc) (comes-IsTooLong words);
  read_fault = Exactly-answer words files out notes ended answer status.ReadFault (λ clash. cc) (λ clash. cc) (comes-CannotRead words);
  read_fault_counted = ReadFaultCounted-answer words files out notes ended answer;
  write_fault_counted = write_fault-answer words files out notes ended answer;
  writes = Writes-answer words files out notes ended answer;
  says = Says-answer words files out notes ended answer;
}

-- ---- which files were taken

not_end : (refusal : Refusal) → ¬ IsEnd (status_of_refusal refusal)
not_end (refused.Defined cause.Words) is = is
not_end (refused.Defined (cause.ReadFault name)) is = is
not_end (refused.Defined (cause.TooLong name)) is = is
not_end (refused.Defined (cause.Module fault)) is = is
not_end (refused.Defined (cause.Input line)) is = is
not_end (refused.Defined (cause.Plan fault)) is = is
not_end (refused.Defined (cause.Map fault)) is = is
not_end (refused.Defined (cause.Check fault)) is = is
not_end refused.WriteFault is = is
not_end refused.Memory is = is

-- what holds where the work came to its end holds where the status says so
pub holds_at_end : {P : Type 0} (came : Result Status Refusal) (ended : Status) (notes : SinkSeen) → IsTold came ended notes → OnOk came P → IsEnd ended → P
holds_at_end (Ok finished) ended notes told holds is = holds
holds_at_end (Err refusal) ended notes (inl said) holds is = absurd (not_end refusal (subst (λ (one : Status). IsEnd one) said.status_is is))
holds_at_end (Err refusal) ended notes (inr part) holds is = absurd (subst (λ (one : Status). IsEnd one) part.status_is is)
