use Rattle.std.proofs.Common.{[]}
use Rattle.std.specs.Prelude.{slice_get, unwrap_or}
use Rattle.ir_verify.specs.Bodies.{insts_of}
use Rattle.ir_verify.specs.Founds.{FoundBelow}
use Rattle.ir_verify.specs.FunctionFaults.{LineFaultAt}
use Rattle.ir_lines.specs.Notes.{Notes}
use Rattle.ir_verify.proofs.verify.note_lines.Given as goal

abbrev pub invariant-loop-place : goal.invariant-loop-place
invariant-loop-place l = Notes l.initial.first.found l.first.found
    (FoundBelow (LineFaultAt l.module.content l.func (unwrap_or (slice_get l.cases l.number) [])) (insts_of l.func) l.place)
