use Rattle.ir_verify.specs.Bodies.{insts_of}
use Rattle.ir_verify.specs.Founds.{FoundBelow}
use Rattle.ir_verify.specs.FunctionFaults.{EscapeAt}
use Rattle.ir_lines.specs.Notes.{Notes}
use Rattle.ir_verify.proofs.verify.note_escapes.Given as goal

abbrev pub invariant-loop-place : goal.invariant-loop-place
invariant-loop-place l = Notes l.initial.first.found l.first.found (FoundBelow (EscapeAt l.func) (insts_of l.func) l.place)
