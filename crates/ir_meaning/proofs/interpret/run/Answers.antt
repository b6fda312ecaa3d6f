use Rattle.std.proofs.Common.{sym, ◌∙◌, arith}
use Rattle.std.proofs.lemmas.Result.{err_from_is_err_and}
use Rattle.piece_writer.specs.LinePuts.{told_by}
use Rattle.ir_meaning.specs.Machines.{state_of, today}
use Rattle.ir_meaning.specs.References.{unprinted}
use Rattle.ir_meaning.proofs.RunLemmas.{follows_start, follows_turned, follows_front, front_turned, end_turned, front_ended}
use Rattle.ir_meaning.proofs.interpret.run.Goals as goal

pub loop-init : goal.loop-init
loop-init g c = record {
  follows = follows_start (today c.args.code.now c.args.plan.now c.args.bound) (state_of c.args.code.now c.args.machine.now) (told_by g.O.Sink.written g.O.Sink.puts c.args.out.now);
  layouts = c.requires;
  count = omega arith;
}

pub loop-preserved : goal.loop-preserved
loop-preserved g c = record {
  follows = follows_turned (today c.args.code.now c.args.plan.now c.args.bound) (unprinted (state_of c.args.code.now c.args.machine.now)) (state_of c.args.code.now c.loop.machine) (state_of c.args.code.now c.turn.new.self) c.in_ok-did.did c.loop.lines c.in_ok-more.more
      (told_by g.O.Sink.written g.O.Sink.puts c.args.out.now) (told_by g.O.Sink.written g.O.Sink.puts c.loop.out) (told_by g.O.Sink.written g.O.Sink.puts c.write_line.new.out) c.loop.invariant.follows c.in_ok-did.ensures.turned
      (sym c.ended.ensures ∙ c.in_default.is) c.in_ok-more.ensures.ok;
  layouts = c.turn.ensures.layouts ∙ c.loop.invariant.layouts;
  count = omega (arith, c.loop.invariant.count, c.write_line.ensures.count);
}

pub returns-in_err-did-clause-front : goal.returns-in_err-did-clause-front
returns-in_err-did-clause-front g c =
    let p = err_from_is_err_and c.from_residual.result c.from_residual.ensures.1 in
    rw p.1 (follows_front (today c.args.code.now c.args.plan.now c.args.bound) (unprinted (state_of c.args.code.now c.args.machine.now)) (state_of c.args.code.now c.loop.machine) c.loop.lines (told_by g.O.Sink.written g.O.Sink.puts c.args.out.now) (told_by g.O.Sink.written g.O.Sink.puts c.loop.out) c.loop.invariant.follows)

pub returns-in_err-more-clause-front : goal.returns-in_err-more-clause-front
returns-in_err-more-clause-front g c =
    let p = err_from_is_err_and c.from_residual-in_err-more.result c.from_residual-in_err-more.ensures.1 in
    rw p.1 (front_turned (today c.args.code.now c.args.plan.now c.args.bound) (unprinted (state_of c.args.code.now c.args.machine.now)) (state_of c.args.code.now c.loop.machine) (state_of c.args.code.now c.turn.new.self) c.in_ok-did.did c.loop.lines (told_by g.O.Sink.written g.O.Sink.puts c.args.out.now) (told_by g.O.Sink.written g.O.Sink.puts c.loop.out) (told_by g.O.Sink.written g.O.Sink.puts c.write_line.new.out)
    c.loop.invariant.follows c.in_ok-did.ensures.turned (sym c.ended.ensures ∙ c.in_default.is) c.in_err-more.ensures.err)

pub returns-in-Some-clause-ran : goal.returns-in-Some-clause-ran
returns-in-Some-clause-ran g c =
    end_turned (today c.args.code.now c.args.plan.now c.args.bound) (unprinted (state_of c.args.code.now c.args.machine.now)) (state_of c.args.code.now c.loop.machine) (state_of c.args.code.now c.turn.new.self) c.in_ok-did.did c.in-Some.end c.loop.lines c.how_ran.result (told_by g.O.Sink.written g.O.Sink.puts c.args.out.now) (told_by g.O.Sink.written g.O.Sink.puts c.loop.out) (told_by g.O.Sink.written g.O.Sink.puts c.show_end.new.out) c.loop.invariant.follows
    c.in_ok-did.ensures.turned (sym c.ended.ensures ∙ c.in-Some.is) c.how_ran.ensures c.in_ok-show_end.ensures.ok c.in_ok-show_end.ensures.by_one_put

pub returns-in_err-show_end-clause-front : goal.returns-in_err-show_end-clause-front
returns-in_err-show_end-clause-front g c =
    let p = err_from_is_err_and c.from_residual-in_err-show_end.result c.from_residual-in_err-show_end.ensures.1 in
    rw p.1 (front_ended (today c.args.code.now c.args.plan.now c.args.bound) (unprinted (state_of c.args.code.now c.args.machine.now)) (state_of c.args.code.now c.loop.machine) (state_of c.args.code.now c.turn.new.self) c.in_ok-did.did c.in-Some.end c.loop.lines (told_by g.O.Sink.written g.O.Sink.puts c.args.out.now) (told_by g.O.Sink.written g.O.Sink.puts c.loop.out) (told_by g.O.Sink.written g.O.Sink.puts c.show_end.new.out) c.loop.invariant.follows
    c.in_ok-did.ensures.turned (sym c.ended.ensures ∙ c.in-Some.is) c.in_err-show_end.ensures.err c.in_err-show_end.ensures.cut)

pub returns-clause-front : goal.returns-clause-front
returns-clause-front g c = follows_front (today c.args.code.now c.args.plan.now c.args.bound) (unprinted (state_of c.args.code.now c.args.machine.now)) (state_of c.args.code.now c.loop.machine) c.loop.lines (told_by g.O.Sink.written g.O.Sink.puts c.args.out.now) (told_by g.O.Sink.written g.O.Sink.puts c.loop.out) c.loop.invariant.follows
