use Rattle.std.proofs.Common.{◌∙◌, Err, inr, sym, ap}
use Rattle.piece_writer.specs.LinePuts.{told_by}
use Rattle.tool_io.proofs.AppendLaws.{append_known-nil}
use Rattle.statepoint_tool.specs.Answers.{sink_seen}
use Rattle.statepoint_tool.specs.Steps.{stops}
use Rattle.statepoint_tool.specs.Runners.{module_in}
use Rattle.statepoint_tool.specs.Work.{no_map}
use Rattle.statepoint_tool.specs.declared.refusal.Cause.TheVariants.{Map}
use Rattle.statepoint_tool.proofs.MachineLaws.{begun-machine, done-machine}
use Rattle.statepoint_tool.proofs.machine.run_over_bytes.Goals as goal

pub returns-in-Ok-clause-came : goal.returns-in-Ok-clause-came
returns-in-Ok-clause-came g c =
    let out = sink_seen (told_by g.O.Sink.written g.O.Sink.puts c.args.out.now) (told_by g.O.Sink.written g.O.Sink.puts c.run_bytes.new.out) (g.O.Sink.faults c.args.out.now) (g.O.Sink.faults c.run_bytes.new.out) in
    done-machine (module_in c.args.«module».now).content c.args.bytes.now c.args.job.now.input.now c.args.job.now.plan.now c.args.job.now.steps c.args.job.now.shows c.in-Ok.ran out
    c.in-Ok.ensures.ran c.in-Ok.ensures.by_one_put c.status_of.result c.status_of.ensures

pub returns-in-Err-BadMap-clause-came : goal.returns-in-Err-BadMap-clause-came
returns-in-Err-BadMap-clause-came g c =
    let is = c.in-Err-BadMap.field-0-is in
    let bad = c.in-Err-BadMap.ensures.bad c.in-Err-BadMap.fault (cc) in
    record {
      defined = stops (Map c.in-Err-BadMap.fault) (no_map c.in-Err-BadMap.fault bad.0);
      unwritten = bad.1 ∙ sym (append_known-nil (g.O.Sink.written c.args.out.now));
    }

pub returns-in-Err-Write-clause-came : goal.returns-in-Err-Write-clause-came
returns-in-Err-Write-clause-came g c =
    let out = sink_seen (told_by g.O.Sink.written g.O.Sink.puts c.args.out.now) (told_by g.O.Sink.written g.O.Sink.puts c.run_bytes.new.out) (g.O.Sink.faults c.args.out.now) (g.O.Sink.faults c.run_bytes.new.out) in (
      c.in-Err-Write.ensures.failed (ap Err c.in-Err-Write.field-0-is),
      begun-machine (module_in c.args.«module».now).content c.args.bytes.now c.args.job.now.input.now c.args.job.now.plan.now c.args.job.now.steps c.args.job.now.shows out
          (c.in-Err-Write.ensures.write (ap Err c.in-Err-Write.field-0-is)),
    )

pub returns-in-Err-Memory-clause-came : goal.returns-in-Err-Memory-clause-came
returns-in-Err-Memory-clause-came g c =
    let out = sink_seen (told_by g.O.Sink.written g.O.Sink.puts c.args.out.now) (told_by g.O.Sink.written g.O.Sink.puts c.run_bytes.new.out) (g.O.Sink.faults c.args.out.now) (g.O.Sink.faults c.run_bytes.new.out) in
    inr (begun-machine (module_in c.args.«module».now).content c.args.bytes.now c.args.job.now.input.now c.args.job.now.plan.now c.args.job.now.steps c.args.job.now.shows out
    (c.in-Err-Memory.ensures.front (ap Err c.in-Err-Memory.field-0-is)))
