use Rattle.std.proofs.Common.{ap, sym, ◌∙◌, arith}
use Rattle.tool_io.proofs.AppendLaws.{OnErr-always}
use Rattle.piece_writer.specs.LinePuts.{told_by}
use Rattle.ir_machine.specs.Executors.{machinery, seen, told}
use Rattle.ir_machine.specs.Answers.{unprinted}
use Rattle.ir_machine.proofs.RunLemmas.{end_front, end_more, follows_front, follows_more, follows_start, settled_end, step_front}
use Rattle.ir_machine.proofs.run.run.Goals as goal

pub loop-init : goal.loop-init
loop-init g c = record {
  follows = follows_start (machinery c.args.program.now) c.args.shows.trace (seen c.args.executor.now) (told_by g.O.Sink.written g.O.Sink.puts c.args.out.now) c.requires.settled;
  count = omega arith;
}

pub loop-preserved : goal.loop-preserved
loop-preserved g c = record {
  follows = rw c.counted-lines.ensures (follows_more c.args.program.now.code (machinery c.args.program.now) c.args.shows (unprinted (seen c.args.executor.now)) c.in_ok-turn.ensures.before c.in_ok-turn.ensures.later (seen c.turn.new.self)
      c.loop.lines (told_by g.O.Sink.written g.O.Sink.puts c.args.out.now) (told_by g.O.Sink.written g.O.Sink.puts c.loop.out) (c.in_ok-turn.ensures.leads (unprinted (seen c.args.executor.now)) c.loop.happening c.loop.lines (told_by g.O.Sink.written g.O.Sink.puts c.args.out.now) (told_by g.O.Sink.written g.O.Sink.puts c.loop.out) c.loop.invariant.follows)
      c.in_ok-turn.turn.event c.turn.new.happening c.in_ok-turn.turn.did c.in_ok-turn.ensures.foreseen c.in_ok-turn.ensures.same c.in_ok-turn.ensures.does (sym c.ended.ensures ∙ c.in_default.is)
      (told_by g.O.Sink.written g.O.Sink.puts c.write_step.new.out) c.in_ok-write_step.ensures.ok);
  count = omega (arith, c.loop.invariant.count, c.write_step.ensures.count);
}

pub returns-in_err-turn-clause-front : goal.returns-in_err-turn-clause-front
returns-in_err-turn-clause-front g c =
    OnErr-always c.from_residual.result
    (follows_front c.args.program.now.code (machinery c.args.program.now) c.args.shows (unprinted (seen c.args.executor.now)) (seen c.loop.executor) (seen c.loop.executor) (seen c.loop.executor)
    c.loop.lines (told_by g.O.Sink.written g.O.Sink.puts c.args.out.now) (told_by g.O.Sink.written g.O.Sink.puts c.loop.out) c.loop.invariant.follows)

pub returns-in_err-write_step-clause-front : goal.returns-in_err-write_step-clause-front
returns-in_err-write_step-clause-front g c =
    OnErr-always c.from_residual-in_err-write_step.result
    (step_front c.args.program.now.code (machinery c.args.program.now) c.args.shows (unprinted (seen c.args.executor.now)) c.in_ok-turn.ensures.before c.in_ok-turn.ensures.later (seen c.turn.new.self)
    c.loop.lines (told_by g.O.Sink.written g.O.Sink.puts c.args.out.now) (told_by g.O.Sink.written g.O.Sink.puts c.loop.out) (c.in_ok-turn.ensures.leads (unprinted (seen c.args.executor.now)) c.loop.happening c.loop.lines (told_by g.O.Sink.written g.O.Sink.puts c.args.out.now) (told_by g.O.Sink.written g.O.Sink.puts c.loop.out) c.loop.invariant.follows)
    c.in_ok-turn.turn.event c.turn.new.happening c.in_ok-turn.turn.did c.in_ok-turn.ensures.foreseen c.in_ok-turn.ensures.same c.in_ok-turn.ensures.does
    (told_by g.O.Sink.written g.O.Sink.puts c.write_step.new.out) c.in_err-write_step.ensures.err)

pub write_end-requires : goal.write_end-requires
write_end-requires g c = record {
  settled = settled_end (seen c.turn.new.self) c.in_ok-turn.turn.did c.in-Some.end (machinery c.args.program.now) c.in_ok-turn.ensures.before (c.in_ok-turn.ensures.leads (unprinted (seen c.args.executor.now)) c.loop.happening c.loop.lines (told_by g.O.Sink.written g.O.Sink.puts c.args.out.now) (told_by g.O.Sink.written g.O.Sink.puts c.loop.out) c.loop.invariant.follows).settled
      (c.in_ok-turn.ensures.does ∙ ap told c.in_ok-turn.ensures.same) (sym c.ended.ensures ∙ c.in-Some.is);
}

pub returns-in_err-write_end-clause-front : goal.returns-in_err-write_end-clause-front
returns-in_err-write_end-clause-front g c =
    OnErr-always c.from_residual-in_err-write_end.result
    (end_front c.args.program.now.code (machinery c.args.program.now) c.args.shows (unprinted (seen c.args.executor.now)) c.in_ok-turn.ensures.before c.in_ok-turn.ensures.later (seen c.turn.new.self)
    c.loop.lines (told_by g.O.Sink.written g.O.Sink.puts c.args.out.now) (told_by g.O.Sink.written g.O.Sink.puts c.loop.out) (c.in_ok-turn.ensures.leads (unprinted (seen c.args.executor.now)) c.loop.happening c.loop.lines (told_by g.O.Sink.written g.O.Sink.puts c.args.out.now) (told_by g.O.Sink.written g.O.Sink.puts c.loop.out) c.loop.invariant.follows)
    c.in_ok-turn.turn.event c.turn.new.happening c.in-Some.end c.in_ok-turn.turn.did c.in_ok-turn.ensures.foreseen c.in_ok-turn.ensures.same c.in_ok-turn.ensures.does (sym c.ended.ensures ∙ c.in-Some.is)
    (told_by g.O.Sink.written g.O.Sink.puts c.write_step.new.out) (told_by g.O.Sink.written g.O.Sink.puts c.write_end.new.out) c.in_ok-write_step.ensures.ok c.in_err-write_end.ensures.err c.in_err-write_end.ensures.cut)

pub returns-in-Some-clause-ran : goal.returns-in-Some-clause-ran
returns-in-Some-clause-ran g c =
    end_more c.args.program.now.code (machinery c.args.program.now) c.args.shows (unprinted (seen c.args.executor.now)) c.in_ok-turn.ensures.before c.in_ok-turn.ensures.later (seen c.turn.new.self)
    c.loop.lines (told_by g.O.Sink.written g.O.Sink.puts c.args.out.now) (told_by g.O.Sink.written g.O.Sink.puts c.loop.out) (c.in_ok-turn.ensures.leads (unprinted (seen c.args.executor.now)) c.loop.happening c.loop.lines (told_by g.O.Sink.written g.O.Sink.puts c.args.out.now) (told_by g.O.Sink.written g.O.Sink.puts c.loop.out) c.loop.invariant.follows)
    c.in_ok-turn.turn.event c.turn.new.happening c.in-Some.end c.in_ok-turn.turn.did c.in_ok-turn.ensures.foreseen c.in_ok-turn.ensures.same c.in_ok-turn.ensures.does (sym c.ended.ensures ∙ c.in-Some.is)
    (told_by g.O.Sink.written g.O.Sink.puts c.write_step.new.out) (told_by g.O.Sink.written g.O.Sink.puts c.write_end.new.out) c.in_ok-write_step.ensures.ok c.in_ok-write_end.ensures.ok c.in_ok-write_end.ensures.by_one_put c.how_ran.result c.how_ran.ensures

pub returns-clause-front : goal.returns-clause-front
returns-clause-front g c =
    follows_front c.args.program.now.code (machinery c.args.program.now) c.args.shows (unprinted (seen c.args.executor.now)) (seen c.loop.executor) (seen c.loop.executor) (seen c.loop.executor)
    c.loop.lines (told_by g.O.Sink.written g.O.Sink.puts c.args.out.now) (told_by g.O.Sink.written g.O.Sink.puts c.loop.out) c.loop.invariant.follows
