use Rattle.tool_io.proofs.AppendLaws.{OnErr-always}
use Rattle.piece_writer.specs.LinePuts.{told_by}
use Rattle.statepoint_tool.specs.Answers.{sink_seen}
use Rattle.statepoint_tool.proofs.RunLaws.{begun-closing, begun-run, done-run}
use Rattle.ir_meaning.proofs.ReadyLemmas.{ready_module}
use Rattle.statepoint_tool.proofs.run.write_run.Goals as goal

pub reference-requires : goal.reference-requires
reference-requires g c = ready_module c.args.read.now.content c.requires.source

pub returns-in_err-ran-clause-begun : goal.returns-in_err-ran-clause-begun
returns-in_err-ran-clause-begun g c =
    let out = sink_seen (told_by g.O.Sink.written g.O.Sink.puts c.args.out.now) (told_by g.O.Sink.written g.O.Sink.puts c.reference.new.out) (g.O.Sink.faults c.args.out.now) (g.O.Sink.faults c.reference.new.out) in
    OnErr-always c.from_residual.result (begun-run c.args.read.now.content c.args.job.now.input.now c.args.job.now.plan.now c.args.job.now.steps out c.in_err-ran.ensures.front)

pub returns-clause-done : goal.returns-clause-done
returns-clause-done g c =
    done-run c.args.read.now.content c.args.job.now.input.now c.args.job.now.plan.now c.args.job.now.steps c.in_ok-ran.ran
    (told_by g.O.Sink.written g.O.Sink.puts c.args.out.now) (told_by g.O.Sink.written g.O.Sink.puts c.reference.new.out) (told_by g.O.Sink.written g.O.Sink.puts c.close.new.out)
    (g.O.Sink.faults c.args.out.now) (g.O.Sink.faults c.close.new.out)
    c.in_ok-ran.ensures.ran c.in_ok-status.status c.in_ok-status.ensures.ok c.in_ok-status.ensures.written c.in_ok-ran.ensures.by_one_put c.in_ok-status.ensures.by_one_put

pub returns-in_err-status-clause-begun : goal.returns-in_err-status-clause-begun
returns-in_err-status-clause-begun g c =
    OnErr-always c.from_residual-in_err-status.result
    (begun-closing c.args.read.now.content c.args.job.now.input.now c.args.job.now.plan.now c.args.job.now.steps c.in_ok-ran.ran
    (told_by g.O.Sink.written g.O.Sink.puts c.args.out.now) (told_by g.O.Sink.written g.O.Sink.puts c.reference.new.out) (told_by g.O.Sink.written g.O.Sink.puts c.close.new.out)
    (g.O.Sink.faults c.args.out.now) (g.O.Sink.faults c.close.new.out) c.in_ok-ran.ensures.ran
    c.in_err-status.ensures.front)
