use Rattle.std.proofs.Common.{arith, [], sym, ◌∙◌}
use Rattle.case_files.proofs.PartLaws.{body_ends}
use Rattle.case_files.proofs.parts.body_of.Goals as goal

pub returns-then-starts_with : goal.returns-then-starts_with
returns-then-starts_with c =
    let here = c.loop-line.invariant.at in
    rw here (body_ends c.args.lines.now c.loop-line.line-index (record { number = 0; text = record { ref_ptr = (0, 0); now = [] } }) c.loop-line-test.true
    (sym (c.starts_with.ensures.byte (omega arith) (omega arith) (λ w o is. is)) ∙ c.if-starts_with.true) (rw here at c.loop-line.invariant.before))
