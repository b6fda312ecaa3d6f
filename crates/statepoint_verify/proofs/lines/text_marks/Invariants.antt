use Rattle.statepoint_verify.specs.Marks.{AreMarked}
use Rattle.statepoint_verify.proofs.lines.text_marks.Given as goal

abbrev pub invariant-loop-number : goal.invariant-loop-number
invariant-loop-number l = AreMarked l.func.content l.number 0 l.marks.items
