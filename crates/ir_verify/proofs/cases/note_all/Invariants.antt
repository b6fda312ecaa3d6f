use Rattle.std.proofs.Common.{◌≡◌, true}
use Rattle.std.specs.Prelude.{◌↔◌}
use Rattle.ir_ast.specs.declared.ops.Operand.{Operand}
use Rattle.ir_verify.specs.Cases.{has}
use Rattle.ir_verify.specs.Founds.{FoundBelow}
use Rattle.ir_verify.specs.FunctionFaults.{CaseAt, Repeats}
use Rattle.ir_lines.specs.Notes.{Notes}
use Rattle.ir_verify.proofs.cases.note_all.Given as goal

abbrev pub invariant-loop-later : goal.invariant-loop-later
invariant-loop-later l = record {
  seen : (one : Operand) → (has l.seen one ≡ true) ↔ Repeats l.operands l.later one;
  noted : Notes l.initial.first.found l.first.found (FoundBelow (CaseAt l.line l.cases l.operands) l.operands l.later);
}
