-- The summary of a generated module, as the output of its work.
use Rattle.std.proofs.Common.{◌≡◌, ℕ, sym, ap, ◌∙◌}
use Rattle.tool_io.specs.Sink.{append_known, AppendsFront}
use Rattle.tool_io.proofs.AppendLaws.{AppendsFront-same}
use Rattle.generated_forms.specs.Modules.{generated}
use Rattle.gen_report.specs.Summaries.{IsSummary, Told, summary_of}
use Rattle.statepoint_tool.specs.Answers.{IsBegun, IsDone, SinkSeen}
use Rattle.statepoint_tool.specs.Closings.{status_of_end}
use Rattle.statepoint_tool.specs.Steps.{Go}
use Rattle.statepoint_tool.specs.Work.{Generating, generates, told_with}
use Rattle.statepoint_tool.specs.declared.status.Status.{Status}

-- all of it was written
pub done-generated : (seed size steps : ℕ) (told : Told) (out : SinkSeen) → IsSummary seed size steps told → (status : Status) → status ≡ status_of_end told.end → out.new ≡ append_known out.old told.text
    → IsDone status (Generating seed size steps) out
done-generated seed size steps told out is status ends written = record {
  output = told_with (summary_of (generated seed size) is.after is.meant) is.meant.end;
  defined = generates is.after is.rewritten is.meant is.means;
  status_is = ends ∙ ap status_of_end is.end;
  written = written ∙ ap (append_known out.old) is.text;
  by_line = tt;
}

-- or a front of it
pub begun-generated : (seed size steps : ℕ) (told : Told) (out : SinkSeen) → IsSummary seed size steps told → AppendsFront out.old out.new told.text
    → IsBegun (λ output. Generating seed size steps (Go output)) out
begun-generated seed size steps told out is front = record {
  output = told_with (summary_of (generated seed size) is.after is.meant) is.meant.end;
  defined = generates is.after is.rewritten is.meant is.means;
  front = AppendsFront-same front (summary_of (generated seed size) is.after is.meant) (sym is.text);
}
