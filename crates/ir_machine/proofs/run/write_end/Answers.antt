use Rattle.std.proofs.Common.{◌++◌, ◌∙◌, sym, ap}
use Rattle.std.specs.List.{concat}
use Rattle.std.proofs.lemmas.List.Folds.{concat-append}
use Rattle.std.proofs.lemmas.Result.{on_err_weaker, on_ok_weaker}
use Rattle.list_laws.proofs.Contents.{all_back, all_front}
use Rattle.tool_io.specs.Sink.{append_known}
use Rattle.tool_io.proofs.AppendLaws.{AppendsFront-first, AppendsFront-same, AppendsFront-second, OnErr-always, append_known-then}
use Rattle.piece_writer.specs.LinePuts.{IsShort, told_by}
use Rattle.piece_writer.proofs.LineLaws.{first_after, first_more, puts_both}
use Rattle.machine_meaning.specs.TrapLines.{closing_of}
use Rattle.run_texts.specs.RunTexts.{end_lines}
use Rattle.ir_machine.specs.Executors.{machinery, seen}
use Rattle.ir_machine.proofs.run.write_end.Goals as goal

pub returns-in_err-write_waits-clause-err : goal.returns-in_err-write_waits-clause-err
returns-in_err-write_waits-clause-err g c =
    let shown = closing_of (machinery c.args.program.now) c.args.end (seen c.args.executor.now) in
    let more = end_lines c.args.program.now.code c.args.places c.args.end (seen c.args.executor.now) in
    OnErr-always c.from_residual.result
    (AppendsFront-same (AppendsFront-first c.in_err-write_waits.ensures.err (concat more)) (concat (shown ++ more)) (concat-append shown more))

pub returns-in_err-write_waits-clause-cut : goal.returns-in_err-write_waits-clause-cut
returns-in_err-write_waits-clause-cut g c = λ short.
    let old = told_by g.O.Sink.written g.O.Sink.puts c.args.out.now in let now = told_by g.O.Sink.written g.O.Sink.puts c.write_waits.new.out in
    let shown = closing_of (machinery c.args.program.now) c.args.end (seen c.args.executor.now) in
    let more = end_lines c.args.program.now.code c.args.places c.args.end (seen c.args.executor.now) in
    OnErr-always c.from_residual.result (first_more old now shown more (c.in_err-write_waits.ensures.cut (all_front IsShort shown more short)))

pub returns-clause-ok : goal.returns-clause-ok
returns-clause-ok g c =
    let shown = closing_of (machinery c.args.program.now) c.args.end (seen c.args.executor.now) in
    let more = end_lines c.args.program.now.code c.args.places c.args.end (seen c.args.executor.now) in
    let old = g.O.Sink.written c.args.out.now in
    on_ok_weaker c.write_closing.result
    (λ written. append_known-then old (g.O.Sink.written c.write_waits.new.out) (g.O.Sink.written c.write_closing.new.out) (concat shown) (concat more) c.in_ok-write_waits.ensures.ok written
    ∙ ap (append_known old) (sym (concat-append shown more)))
    c.write_closing.ensures.ok

pub returns-clause-err : goal.returns-clause-err
returns-clause-err g c =
    let shown = closing_of (machinery c.args.program.now) c.args.end (seen c.args.executor.now) in
    let more = end_lines c.args.program.now.code c.args.places c.args.end (seen c.args.executor.now) in
    on_err_weaker c.write_closing.result
    (λ front. AppendsFront-same (AppendsFront-second (g.O.Sink.written c.args.out.now) (concat shown) c.in_ok-write_waits.ensures.ok front) (concat (shown ++ more)) (concat-append shown more))
    c.write_closing.ensures.err

pub returns-clause-by_one_put : goal.returns-clause-by_one_put
returns-clause-by_one_put g c = λ short.
    let old = told_by g.O.Sink.written g.O.Sink.puts c.args.out.now in let now = told_by g.O.Sink.written g.O.Sink.puts c.write_waits.new.out in
    let new = told_by g.O.Sink.written g.O.Sink.puts c.write_closing.new.out in
    let shown = closing_of (machinery c.args.program.now) c.args.end (seen c.args.executor.now) in
    let more = end_lines c.args.program.now.code c.args.places c.args.end (seen c.args.executor.now) in
    on_ok_weaker c.write_closing.result
    (λ put. puts_both old now new shown more (c.in_ok-write_waits.ensures.by_one_put (all_front IsShort shown more short)) put)
    (c.write_closing.ensures.by_one_put (all_back IsShort shown more short))

pub returns-clause-cut : goal.returns-clause-cut
returns-clause-cut g c = λ short.
    let old = told_by g.O.Sink.written g.O.Sink.puts c.args.out.now in let now = told_by g.O.Sink.written g.O.Sink.puts c.write_waits.new.out in
    let new = told_by g.O.Sink.written g.O.Sink.puts c.write_closing.new.out in
    let shown = closing_of (machinery c.args.program.now) c.args.end (seen c.args.executor.now) in
    let more = end_lines c.args.program.now.code c.args.places c.args.end (seen c.args.executor.now) in
    on_err_weaker c.write_closing.result
    (λ cut. first_after old now new shown more (c.in_ok-write_waits.ensures.by_one_put (all_front IsShort shown more short)) cut)
    (c.write_closing.ensures.cut (all_back IsShort shown more short))
