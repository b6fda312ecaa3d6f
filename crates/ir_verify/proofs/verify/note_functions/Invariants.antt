use Rattle.ir_verify.specs.Founds.{FoundBelow}
use Rattle.ir_verify.specs.FunctionFaults.{FunctionAt}
use Rattle.ir_lines.specs.Notes.{Notes}
use Rattle.ir_verify.proofs.verify.note_functions.Given as goal

abbrev pub invariant-loop-number : goal.invariant-loop-number
invariant-loop-number l = Notes l.initial.first.found l.first.found (FoundBelow (FunctionAt l.module.content l.cases) l.funcs l.number)
