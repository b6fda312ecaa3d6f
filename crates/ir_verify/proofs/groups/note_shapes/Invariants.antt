use Rattle.std.proofs.Common.{◌≡◌}
use Rattle.std.specs.Option.{option_map}
use Rattle.ir_ast.specs.Faults.GroupShape.{number_at}
use Rattle.ir_verify.specs.Bodies.{insts_of}
use Rattle.ir_verify.specs.Founds.{FoundBelow}
use Rattle.ir_verify.specs.FunctionFaults.{ShapeAt}
use Rattle.ir_verify.specs.Groups.{seen_open, Opened}
use Rattle.ir_lines.specs.Notes.{Notes}
use Rattle.ir_verify.proofs.groups.note_shapes.Given as goal

abbrev pub invariant-loop-place : goal.invariant-loop-place
invariant-loop-place l = record {
  number : l.number ≡ number_at l.func.content l.place;
  opened : Opened l.func.content l.place (option_map seen_open l.held);
  noted : Notes l.initial.first.found l.first.found (FoundBelow (ShapeAt l.func) (insts_of l.func) l.place);
}
