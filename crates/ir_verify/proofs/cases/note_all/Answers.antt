use Rattle.std.proofs.lemmas.Option.{slice_get-get_or}
use Rattle.ir_verify.specs.Cases.{has}
use Rattle.ir_verify.specs.FunctionFaults.{CaseAt}
use Rattle.ir_verify.proofs.Founds.{notes-step}
use Rattle.ir_verify.proofs.CaseLemmas.{seen-more, note-case}
use Rattle.ir_verify.proofs.cases.note_all.Goals as goal

pub loop-later-preserved : goal.loop-later-preserved
loop-later-preserved c =
    let operands = c.args.operands.now in
    let later = c.loop-later.later in
    let at = slice_get-get_or operands later _ c.loop-later-test.true in
    record {
      seen = λ one. seen-more operands later _ (has c.loop-later.seen one) (has c.note_case.new.seen one) one at (c.loop-later.invariant.seen one)
          (c.in_ok-note_case.ensures.added one);
      noted = notes-step (CaseAt c.args.line c.args.cases.now operands) operands later _ c.args.first.now.found c.loop-later.first.found c.note_case.new.first.found
          at c.loop-later.invariant.noted
          (note-case operands later _ _ (has c.loop-later.seen _) c.loop-later.first.found c.note_case.new.first.found (c.loop-later.invariant.seen _) c.in_ok-note_case.ensures.noted);
    }
