-- A call over files and sinks whose counts of faults are the constant 0.
use Rattle.std.proofs.Common.{◌≡◌, ◌⊎◌, ℕ, List, Option, inl, inr}
use Rattle.tool_io.proofs.CountLaws.{Rose-zero-absurd}
use Rattle.tool_words.specs.Words.{command_of}
use Rattle.piece_writer.specs.LinePuts.{SinkTold}
use Rattle.statepoint_tool.specs.Answers.{SinkSeen, sink_seen}
use Rattle.statepoint_tool.specs.Causes.{Ends}
use Rattle.statepoint_tool.specs.Complete.{AllTold, HasEnded, IsFaultless, IsShort}
use Rattle.statepoint_tool.specs.Facts.{Facts}
use Rattle.statepoint_tool.specs.Statuses.{ReadFaultCounted}
use Rattle.statepoint_tool.specs.Taken.{FilesSeen, files_seen}
use Rattle.statepoint_tool.specs.Work.{Given, Output}
use Rattle.statepoint_tool.specs.declared.status.Status.{Status}
use Rattle.statepoint_tool.specs.declared.status.Status.TheVariants as status

-- what a call sees of files and of a sink that never fail
abbrev pub sure_files : (List ℕ → Option (List ℕ)) → FilesSeen
sure_files contents = files_seen contents (λ _. 0) (λ _. 0)

abbrev pub sure_sink : (old new : SinkTold) → SinkSeen
sure_sink old new = sink_seen old new 0 0

module _ (words : List (List ℕ)) (contents : List ℕ → Option (List ℕ)) (old new old_notes new_notes : SinkTold) (ended : Status)
    (facts : Facts words (sure_files contents) (sure_sink old new) (sure_sink old_notes new_notes) ended) where
  pub no_read_fault : ¬ (ended ≡ status.ReadFault)
  no_read_fault is = (let counted : ReadFaultCounted words (sure_files contents) = facts.read_fault_counted is in Rose-zero-absurd counted.holds.1)

  pub no_write_fault : ¬ (ended ≡ status.WriteFault)
  no_write_fault is = elim (facts.write_fault_counted is) [
    | inl rose ↦ Rose-zero-absurd rose
    | inr rose ↦ Rose-zero-absurd rose
  ]

  short_wants : (output : Output) → IsShort output ended (sure_sink old new) (sure_sink old_notes new_notes) → ended ≡ status.WantOfMemory
  short_wants output short = elim short.wants_memory [
    | inl memory ↦ memory
    | inr failed ↦ absurd (no_write_fault failed.0)
  ]

  pub complete_or_memory : (given : Given) → AllTold (sure_files contents) (command_of words) given → IsFaultless words given
      → (output : Output) × Ends words given output × ((ended ≡ output.status) ⊎ (ended ≡ status.WantOfMemory))
  complete_or_memory given told faultless =
      let done : HasEnded words given ended (sure_sink old new) (sure_sink old_notes new_notes) = facts.complete given told faultless (λ rose. Rose-zero-absurd rose) in
      (done.output, done.ends, elim done.written [ inl whole ↦ inl whole.status_is | inr short ↦ inr (short_wants done.output short) ])
