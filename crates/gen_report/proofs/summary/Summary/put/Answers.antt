use Rattle.std.proofs.lemmas.Result.{on_err_weaker, on_ok_weaker}
use Rattle.tool_io.proofs.AppendLaws.{AppendsFront-first, AppendsFront-second, OnErr-always, append_known-then}
use Rattle.gen_report.proofs.summary.Summary.put.Goals as goal

pub returns-in_err-put_counts-clause-err : goal.returns-in_err-put_counts-clause-err
returns-in_err-put_counts-clause-err g c = rw (← c.self.view_is) (OnErr-always c.from_residual.result (AppendsFront-first c.in_err-put_counts.ensures.err _))

pub returns-clause-ok : goal.returns-clause-ok
returns-clause-ok g c =
    rw (← c.self.view_is) (on_ok_weaker c.closing.result (λ written. append_known-then (g.O.Sink.written c.args.out.now) (g.O.Sink.written c.put_counts.new.out) (g.O.Sink.written c.closing.new.out) _ _ c.in_ok-put_counts.ensures.ok written) (rw (c.function_name-name.ensures, c.«module».ensures.value) at c.closing.ensures.ok))

pub returns-clause-err : goal.returns-clause-err
returns-clause-err g c =
    rw (← c.self.view_is) (on_err_weaker c.closing.result (λ front. AppendsFront-second (g.O.Sink.written c.args.out.now) _ c.in_ok-put_counts.ensures.ok front) (rw (c.function_name-name.ensures, c.«module».ensures.value) at c.closing.ensures.err))
