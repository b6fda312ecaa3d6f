use Rattle.std.proofs.Common.{◌≡◌, ◌≤◌, ℕ, List, [], ◌∷◌, length, OnOk, OnErr, ap, ◌∙◌, subst}
use Rattle.std.proofs.lemmas.List.Elements.{All-head, All-same}
use Rattle.tool_io.specs.Sink.{append_known, AppendsFront}
use Rattle.piece_writer.specs.LinePuts.{IsShort, PutsFirst, PutsLines, told_by}
use Rattle.piece_writer.proofs.LineLaws.{ok_one, err_one, puts_none, puts_same}
use Rattle.waiting_frames.specs.Frames.{Seen, exit_frame}
use Rattle.waiting_frames.specs.Shown.{frame_lines, frame_text, bundle_text}
use Rattle.waiting_frames.proofs.BundleLemmas.{no_lines, shown_line, shown_lines}
use Rattle.waiting_frames.proofs.lines.show_frame.Goals as goal

pub returns-clause-ok : goal.returns-clause-ok
returns-clause-ok g c =
    let seen : Seen = record { spot = c.args.spot; registers = c.args.registers.now } in
    let bundle = c.bundle_at-bundle.result.now in
    let same : bundle_text c.args.number c.name_of.result.now c.args.registers.now bundle ≡ frame_text c.args.code.now c.args.number (exit_frame c.args.code.now seen) =
    ap (λ (name : List ℕ). bundle_text c.args.number name c.args.registers.now bundle) c.name_of.ensures
    ∙ shown_line c.args.code.now c.args.number seen bundle c.bundle_at-bundle.ensures c.if-is_empty.ensures in
    subst (λ (text : List ℕ). OnOk c.put_text.result (g.O.Sink.written c.put_text.new.out ≡ append_known (g.O.Sink.written c.args.out.now) text)) same c.put_text.ensures.ok

pub returns-clause-err : goal.returns-clause-err
returns-clause-err g c =
    let seen : Seen = record { spot = c.args.spot; registers = c.args.registers.now } in
    let bundle = c.bundle_at-bundle.result.now in
    let same : bundle_text c.args.number c.name_of.result.now c.args.registers.now bundle ≡ frame_text c.args.code.now c.args.number (exit_frame c.args.code.now seen) =
    ap (λ (name : List ℕ). bundle_text c.args.number name c.args.registers.now bundle) c.name_of.ensures
    ∙ shown_line c.args.code.now c.args.number seen bundle c.bundle_at-bundle.ensures c.if-is_empty.ensures in
    subst (λ (text : List ℕ). OnErr c.put_text.result (AppendsFront (g.O.Sink.written c.args.out.now) (g.O.Sink.written c.put_text.new.out) text)) same c.put_text.ensures.err

pub returns-clause-by_one_put : goal.returns-clause-by_one_put
returns-clause-by_one_put g c = λ short.
    let seen : Seen = record { spot = c.args.spot; registers = c.args.registers.now } in
    let bundle = c.bundle_at-bundle.result.now in
    let line = bundle_text c.args.number c.name_of.result.now c.args.registers.now bundle in
    let lines = frame_lines c.args.code.now c.args.number (exit_frame c.args.code.now seen) in
    let old = told_by g.O.Sink.written g.O.Sink.puts c.args.out.now in
    let new = told_by g.O.Sink.written g.O.Sink.puts c.put_text.new.out in
    let same : line ∷ [] ≡ lines =
    ap (λ (name : List ℕ). bundle_text c.args.number name c.args.registers.now bundle ∷ []) c.name_of.ensures
    ∙ shown_lines c.args.code.now c.args.number seen bundle c.bundle_at-bundle.ensures c.if-is_empty.ensures in
    let fits : length line ≤ 8192 = All-head IsShort line [] (All-same IsShort (line ∷ []) lines same short) in
    subst (λ (all : List (List ℕ)). OnOk c.put_text.result (PutsLines old new all)) same
    (ok_one c.put_text.result old new line c.put_text.ensures.ok (c.put_text.ensures.by_one_put fits))

pub returns-clause-cut : goal.returns-clause-cut
returns-clause-cut g c = λ short.
    let seen : Seen = record { spot = c.args.spot; registers = c.args.registers.now } in
    let bundle = c.bundle_at-bundle.result.now in
    let line = bundle_text c.args.number c.name_of.result.now c.args.registers.now bundle in
    let lines = frame_lines c.args.code.now c.args.number (exit_frame c.args.code.now seen) in
    let old = told_by g.O.Sink.written g.O.Sink.puts c.args.out.now in
    let new = told_by g.O.Sink.written g.O.Sink.puts c.put_text.new.out in
    let same : line ∷ [] ≡ lines =
    ap (λ (name : List ℕ). bundle_text c.args.number name c.args.registers.now bundle ∷ []) c.name_of.ensures
    ∙ shown_lines c.args.code.now c.args.number seen bundle c.bundle_at-bundle.ensures c.if-is_empty.ensures in
    let fits : length line ≤ 8192 = All-head IsShort line [] (All-same IsShort (line ∷ []) lines same short) in
    subst (λ (all : List (List ℕ)). OnErr c.put_text.result (PutsFirst old new all)) same
    (err_one c.put_text.result old new line c.put_text.ensures.err (c.put_text.ensures.unput fits))

pub returns-then-is_empty-clause-by_one_put : goal.returns-then-is_empty-clause-by_one_put
returns-then-is_empty-clause-by_one_put g c = λ short.
    let seen : Seen = record { spot = c.args.spot; registers = c.args.registers.now } in
    let now = told_by g.O.Sink.written g.O.Sink.puts c.args.out.now in
    puts_same now now [] (frame_lines c.args.code.now c.args.number (exit_frame c.args.code.now seen))
    (no_lines c.args.code.now c.args.number seen c.bundle_at-bundle.result.now c.bundle_at-bundle.ensures c.if-is_empty.ensures) (puts_none now)
