use Rattle.ir_verify.specs.Founds.{FoundBelow}
use Rattle.ir_verify.specs.FunctionFaults.{LabelAt}
use Rattle.ir_lines.specs.Notes.{Notes}
use Rattle.ir_verify.proofs.insts.note_labels.Given as goal

abbrev pub invariant-loop-part : goal.invariant-loop-part
invariant-loop-part l = Notes l.initial.first.found l.first.found (FoundBelow (LabelAt l.line l.cases) l.labels l.part)
