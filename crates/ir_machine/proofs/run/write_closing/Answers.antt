use Rattle.std.proofs.Common.{ℕ, Bool, List, [], ◌∷◌, subst}
use Rattle.std.specs.Prelude.{if◌then◌else◌}
use Rattle.std.specs.List.{All}
use Rattle.std.proofs.lemmas.List.Elements.{All-head, All-tail}
use Rattle.object_meaning.specs.Texts.{function_name}
use Rattle.tool_report.specs.Closings.{closing_line}
use Rattle.run_texts.specs.RunTexts.{end_lines, place_lines}
use Rattle.piece_writer.specs.LinePuts.{IsShort, told_by}
use Rattle.piece_writer.proofs.LineLaws.{first_after, first_failed, puts_both, puts_one}
use Rattle.ir_machine.specs.Executors.{seen}
use Rattle.tool_io.proofs.AppendLaws.{AppendsFront-first, AppendsFront-second, OnErr-always}
use Rattle.ir_machine.proofs.run.write_closing.Goals as goal

pub returns-in_err-closing-clause-err : goal.returns-in_err-closing-clause-err
returns-in_err-closing-clause-err g c =
    OnErr-always c.from_residual.result
    (AppendsFront-first (rw (c.function_name-name.ensures, c.module-module.ensures) at c.in_err-closing.ensures.err) _)

pub returns-in_err-write_places-clause-err : goal.returns-in_err-write_places-clause-err
returns-in_err-write_places-clause-err g c =
    rw c.if-places.true (OnErr-always c.from_residual-in_err-write_places.result
    (AppendsFront-second (g.O.Sink.written c.args.out.now) _ (rw (c.function_name-name.ensures, c.module-module.ensures) at c.in_ok-closing.ensures.ok) (rw (c.layouts.ensures.value, c.module-module.ensures) at c.in_err-write_places.ensures.err)))

pub returns-in_err-closing-clause-cut : goal.returns-in_err-closing-clause-cut
returns-in_err-closing-clause-cut g c = λ short.
    let old = told_by g.O.Sink.written g.O.Sink.puts c.args.out.now in let now = (told_by g.O.Sink.written g.O.Sink.puts c.closing.new.out) in
    let content = c.args.program.now.code in let end = c.args.end in let last = seen c.args.executor.now in
    let line = closing_line end (function_name content last.state.running.func) last.state.steps last.state.events in
    let more : List (List ℕ) = if c.args.places then place_lines content.layouts last.heap.stands last.heap.contents else [] in
    OnErr-always c.from_residual.result
    (first_failed old now line more (rw (c.function_name-name.ensures, c.module-module.ensures) at c.in_err-closing.ensures.err)
    ((rw (c.function_name-name.ensures, c.module-module.ensures) at c.in_err-closing.ensures.unput) (All-head IsShort line more short)))

pub returns-in_err-write_places-clause-cut : goal.returns-in_err-write_places-clause-cut
returns-in_err-write_places-clause-cut g c = λ short.
    let old = told_by g.O.Sink.written g.O.Sink.puts c.args.out.now in let now = (told_by g.O.Sink.written g.O.Sink.puts c.closing.new.out) in let new = (told_by g.O.Sink.written g.O.Sink.puts c.write_places.new.out) in
    let content = c.args.program.now.code in let end = c.args.end in let last = seen c.args.executor.now in
    let line = closing_line end (function_name content last.state.running.func) last.state.steps last.state.events in
    let more = place_lines content.layouts last.heap.stands last.heap.contents in
    let all : All IsShort (line ∷ more) = subst (λ (places : Bool). All IsShort (end_lines content places end last)) c.if-places.true short in
    rw c.if-places.true (OnErr-always c.from_residual-in_err-write_places.result
    (first_after old now new (line ∷ []) more
    (puts_one old now line (rw (c.function_name-name.ensures, c.module-module.ensures) at c.in_ok-closing.ensures.ok)
    ((rw (c.function_name-name.ensures, c.module-module.ensures) at c.in_ok-closing.ensures.by_one_put) (All-head IsShort line more all)))
    ((rw (c.layouts.ensures.value, c.module-module.ensures) at c.in_err-write_places.ensures.cut) (All-tail IsShort line more all))))

pub returns-in_ok-write_places-clause-by_one_put : goal.returns-in_ok-write_places-clause-by_one_put
returns-in_ok-write_places-clause-by_one_put g c = λ short.
    let old = told_by g.O.Sink.written g.O.Sink.puts c.args.out.now in let now = (told_by g.O.Sink.written g.O.Sink.puts c.closing.new.out) in let new = (told_by g.O.Sink.written g.O.Sink.puts c.write_places.new.out) in
    let content = c.args.program.now.code in let end = c.args.end in let last = seen c.args.executor.now in
    let line = closing_line end (function_name content last.state.running.func) last.state.steps last.state.events in
    let more = place_lines content.layouts last.heap.stands last.heap.contents in
    let all : All IsShort (line ∷ more) = subst (λ (places : Bool). All IsShort (end_lines content places end last)) c.if-places.true short in
    rw c.if-places.true (puts_both old now new (line ∷ []) more
    (puts_one old now line (rw (c.function_name-name.ensures, c.module-module.ensures) at c.in_ok-closing.ensures.ok)
    ((rw (c.function_name-name.ensures, c.module-module.ensures) at c.in_ok-closing.ensures.by_one_put) (All-head IsShort line more all)))
    ((rw (c.layouts.ensures.value, c.module-module.ensures) at c.in_ok-write_places.ensures.by_one_put) (All-tail IsShort line more all)))
