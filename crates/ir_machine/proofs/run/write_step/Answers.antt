use Rattle.std.proofs.Common.{◌≡◌, List, ℕ, [], ◌∷◌, ◌++◌, ap, sym, ◌∙◌, append-nil}
use Rattle.std.proofs.lemmas.Result.{on_err_weaker, on_ok_weaker}
use Rattle.tool_io.proofs.AppendLaws.{OnErr-always}
use Rattle.piece_writer.specs.LinePuts.{told_by}
use Rattle.piece_writer.proofs.LineLaws.{err_one, first_after, first_more, first_same, ok_one, puts_both, puts_same}
use Rattle.ir_machine.specs.Traces.{did_lose, shown_lines}
use Rattle.ir_machine.specs.Answers.{printed_of}
use Rattle.ir_machine.proofs.WriteLemmas.{prints_nothing}
use Rattle.ir_machine.proofs.run.write_step.Goals as goal

pub returns-in_err-write_event-clause-err : goal.returns-in_err-write_event-clause-err
returns-in_err-write_event-clause-err g c =
    let old = told_by g.O.Sink.written g.O.Sink.puts c.args.out.now in let now = (told_by g.O.Sink.written g.O.Sink.puts c.write_event.new.out) in
    OnErr-always c.from_residual.result
    (first_more old now (shown_lines c.args.event (did_lose c.args.did) c.args.happening.now) (printed_of c.args.did) c.in_err-write_event.ensures.err)

pub returns-in-Prints-clause-ok : goal.returns-in-Prints-clause-ok
returns-in-Prints-clause-ok g c =
    let old = told_by g.O.Sink.written g.O.Sink.puts c.args.out.now in let now = (told_by g.O.Sink.written g.O.Sink.puts c.write_event.new.out) in let new = (told_by g.O.Sink.written g.O.Sink.puts c.put.new.self) in
    let shown = shown_lines c.args.event (did_lose c.args.did) c.args.happening.now in
    let line : c.as_slice.result.now ∷ [] ≡ printed_of c.args.did =
    ap (λ (bytes : List ℕ). bytes ∷ []) (c.as_slice.ensures.value ∙ c.printed_line.ensures) ∙ ap printed_of (sym c.in-Prints.is) in
    on_ok_weaker c.put.result (λ put. puts_both old now new shown (printed_of c.args.did) c.in_ok-write_event.ensures.ok (puts_same now new (c.as_slice.result.now ∷ []) (printed_of c.args.did) line put))
    (ok_one c.put.result now new c.as_slice.result.now c.put.ensures.ok c.put.ensures.noted)

pub returns-in-Prints-clause-err : goal.returns-in-Prints-clause-err
returns-in-Prints-clause-err g c =
    let old = told_by g.O.Sink.written g.O.Sink.puts c.args.out.now in let now = (told_by g.O.Sink.written g.O.Sink.puts c.write_event.new.out) in let new = (told_by g.O.Sink.written g.O.Sink.puts c.put.new.self) in
    let shown = shown_lines c.args.event (did_lose c.args.did) c.args.happening.now in
    let line : c.as_slice.result.now ∷ [] ≡ printed_of c.args.did =
    ap (λ (bytes : List ℕ). bytes ∷ []) (c.as_slice.ensures.value ∙ c.printed_line.ensures) ∙ ap printed_of (sym c.in-Prints.is) in
    on_err_weaker c.put.result (λ put. first_after old now new shown (printed_of c.args.did) c.in_ok-write_event.ensures.ok (first_same now new (c.as_slice.result.now ∷ []) (printed_of c.args.did) line put))
    (err_one c.put.result now new c.as_slice.result.now c.put.ensures.err c.put.ensures.unnoted)

pub returns-in_default-clause-ok : goal.returns-in_default-clause-ok
returns-in_default-clause-ok g c =
    let old = told_by g.O.Sink.written g.O.Sink.puts c.args.out.now in let now = (told_by g.O.Sink.written g.O.Sink.puts c.write_event.new.out) in
    let shown = shown_lines c.args.event (did_lose c.args.did) c.args.happening.now in
    puts_same old now shown (shown ++ printed_of c.args.did)
    (sym (append-nil shown) ∙ ap (λ (more : List (List ℕ)). shown ++ more) (prints_nothing c.args.did c.in_default.not-Prints)) c.in_ok-write_event.ensures.ok
