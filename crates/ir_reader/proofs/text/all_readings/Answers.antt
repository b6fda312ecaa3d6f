use Rattle.std.proofs.Common.{◌≡◌, ◌∷◌, sym, ap, ◌∙◌, refl}
use Rattle.std.specs.Prelude.{map}
use Rattle.std.proofs.lemmas.Result.{err_from_is_err_and}
use Rattle.sp_text.specs.Lines.{lines_left, lines_of, seen_line}
use Rattle.ir_reader.specs.Text.{readings, readings_in, opening}
use Rattle.ir_reader.specs.Raws.{seen_numbered}
use Rattle.ir_reader.proofs.LineByLine.{with_lines, with_none, goes_on, ends_at, is_whole, is_cut}
use Rattle.ir_reader.proofs.text.all_readings.Goals as goal

pub loop-line-init : goal.loop-line-init
unfolding readings_in
loop-line-init c = (
  rw (c.opening-state.ensures, c.new-readings.ensures, c.of-lines.ensures.all) (with_none (readings (opening c.args.form) 1 (lines_of c.args.text.now))),
  rw c.opening-state.ensures refl,
)

pub returns-in_err-read_line : goal.returns-in_err-read_line
returns-in_err-read_line c =
    let p = err_from_is_err_and c.from_residual.result c.from_residual.ensures.1 in
    let so_far : with_lines (map seen_numbered c.loop-line.readings) (readings c.loop-line.state c.loop-line.number (seen_line c.in-Some.line ∷ lines_left c.next_line.new.self)) ≡ readings_in c.opening-state.result.form c.args.text.now
    = rw (← c.in-Some.ensures.next) c.loop-line.invariant.0 in
    rw (← ap (λ s. s.form) c.opening-state.ensures, p.1, p.2) (ends_at c.in_err-read_line.field-0.0 (seen_line c.in-Some.line) (lines_left c.next_line.new.self) c.loop-line.number c.loop-line.state (map seen_numbered c.loop-line.readings) (readings_in c.opening-state.result.form c.args.text.now)
    so_far c.in_err-read_line.ensures.fault)

pub loop-line-preserved : goal.loop-line-preserved
loop-line-preserved c =
    let so_far : with_lines (map seen_numbered c.loop-line.readings) (readings c.loop-line.state c.loop-line.number (seen_line c.in-Some.line ∷ lines_left c.next_line.new.self)) ≡ readings_in c.opening-state.result.form c.args.text.now
    = rw (← c.in-Some.ensures.next) c.loop-line.invariant.0 in (
      goes_on (seen_line c.in-Some.line) (lines_left c.next_line.new.self) c.loop-line.number c.loop-line.state c.read_line.new.state (map seen_numbered c.loop-line.readings)
          (map seen_numbered c.read_line.new.readings) (readings_in c.opening-state.result.form c.args.text.now) so_far c.in_ok-read_line.ensures.ok,
      c.in_ok-read_line.ensures.counts,
    )

pub returns-then-is_top : goal.returns-then-is_top
returns-then-is_top c =
    rw (← ap (λ s. s.form) c.opening-state.ensures) (is_whole (lines_left c.loop-line.lines) c.loop-line.number c.loop-line.state (map seen_numbered c.loop-line.readings) (readings_in c.opening-state.result.form c.args.text.now) c.loop-line.invariant.0 (c.in_default.ensures.end.0 refl) (sym c.is_top.ensures ∙ c.if-is_top.true))

pub returns : goal.returns
returns c =
    rw (← ap (λ s. s.form) c.opening-state.ensures) (is_cut (lines_left c.loop-line.lines) c.loop-line.number c.loop-line.state (map seen_numbered c.loop-line.readings) (readings_in c.opening-state.result.form c.args.text.now) c.loop-line.invariant.0 (c.in_default.ensures.end.0 refl) (sym c.is_top.ensures ∙ c.if-is_top.false))
