use Rattle.std.proofs.lemmas.Result.{err_from_is_err_and}
use Rattle.std.proofs.Common.{refl}
use Rattle.sp_text.specs.Lines.{lines_left, seen_line}
use Rattle.move_plan.proofs.InputLaws.{loop_begins, loop_ends, loop_goes_on, loop_stops}
use Rattle.move_plan.proofs.inputs.read_input.Goals as goal

pub loop-line-init : goal.loop-line-init
loop-line-init c =
    loop_begins c.args.text.now (lines_left c.of-lines.result) c.new-numbers.result.items c.of-lines.ensures.all c.new-numbers.ensures.items

pub loop-line-preserved : goal.loop-line-preserved
loop-line-preserved c =
    loop_goes_on c.args.text.now (lines_left c.loop-line.lines) (lines_left c.next_line.new.self) c.loop-line.numbers.items c.take_line.new.numbers.items (seen_line c.in-Some.line)
    c.loop-line.invariant c.in-Some.ensures.next c.in_ok-take_line.ensures.ok

pub returns-in_err-take_line-clause-fault : goal.returns-in_err-take_line-clause-fault
returns-in_err-take_line-clause-fault c =
    let p = err_from_is_err_and c.from_residual.result c.from_residual.ensures.1 in
    rw (p.1, p.2) (loop_stops c.args.text.now (lines_left c.loop-line.lines) (lines_left c.next_line.new.self) c.loop-line.numbers.items (seen_line c.in-Some.line) c.in_err-take_line.field-0.0
    c.loop-line.invariant c.in-Some.ensures.next c.in_err-take_line.ensures.err)

pub returns-clause-input : goal.returns-clause-input
returns-clause-input c =
    (loop_ends c.args.text.now (lines_left c.loop-line.lines) c.loop-line.numbers.items c.loop-line.invariant (c.in_default.ensures.end.0 refl)).0

pub returns-clause-faultless : goal.returns-clause-faultless
returns-clause-faultless c =
    (loop_ends c.args.text.now (lines_left c.loop-line.lines) c.loop-line.numbers.items c.loop-line.invariant (c.in_default.ensures.end.0 refl)).1
