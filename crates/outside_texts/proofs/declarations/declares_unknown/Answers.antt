use Rattle.std.proofs.Common.{◌≡◌, sym}
use Rattle.sp_text.specs.Lines.{lines_of, lines_left, seen_line}
use Rattle.outside_texts.proofs.Evidence.{kept, told}
use Rattle.outside_texts.proofs.declarations.declares_unknown.Goals as goal

pub returns-then-branch : goal.returns-then-branch
returns-then-branch c =
    λ _. told c.args.text.now (lines_left c.loop-line.lines) (lines_left c.next_line.new.self) (seen_line c.in-Some.line) c.in-Some.ensures.next c.loop-line.invariant
    (c.in_ok-is_unknown.ensures c.if-branch.true)

pub loop-line-preserved-else-tries-ge-TRIES : goal.loop-line-preserved-else-tries-ge-TRIES
loop-line-preserved-else-tries-ge-TRIES c =
    kept (lines_left c.loop-line.lines) (lines_left c.next_line.new.self) (lines_of c.args.text.now) (seen_line c.in-Some.line) c.in-Some.ensures.next c.loop-line.invariant

pub loop-line-preserved : goal.loop-line-preserved
loop-line-preserved c =
    kept (lines_left c.loop-line.lines) (lines_left c.next_line.new.self) (lines_of c.args.text.now) (seen_line c.in-Some.line) c.in-Some.ensures.next c.loop-line.invariant
