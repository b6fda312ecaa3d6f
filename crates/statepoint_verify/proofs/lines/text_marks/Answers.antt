use Rattle.std.proofs.Common.{◌≡◌, ℕ, List, sym, ap, subst, length, arith}
use Rattle.statepoint_verify.specs.declared.marks.Mark.{Mark}
use Rattle.statepoint_verify.specs.Marks.{AreMarked}
use Rattle.statepoint_verify.proofs.MarkLemmas.{marked_none, marked_all}
use Rattle.statepoint_verify.proofs.lines.text_marks.Goals as goal

pub loop-number-init : goal.loop-number-init
loop-number-init c =
    subst (λ (marks : List Mark). AreMarked c.args.func.now.content 0 0 marks) (sym c.new-marks.ensures.items) (marked_none c.args.func.now.content)

pub returns : goal.returns
returns c =
    let func = c.args.func.now.content in
    let count : length c.blocks-block-items.result.now ≡ length func.blocks = ap length c.blocks-block-items.ensures.value in
    let all : c.loop-number.number ≡ length func.blocks = omega arith in
    marked_all func c.loop-number.marks.items (subst (λ (n : ℕ). AreMarked func n 0 c.loop-number.marks.items) all c.loop-number.invariant)
