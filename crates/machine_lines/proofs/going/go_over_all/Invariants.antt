use Rattle.std.proofs.Common.{◌≡◌, map, drop}
use Rattle.ir_ast.specs.Objects.{number}
use Rattle.machine_meaning.specs.Machines.{Machine, Machinery}
use Rattle.machine_lines.specs.Going.{GoesOver, stood}
use Rattle.machine_lines.specs.Lines.{lines_left}
use Rattle.machine_lines.proofs.going.go_over_all.Given as goal

abbrev pub invariant-loop-place : goal.invariant-loop-place
invariant-loop-place l = record {
  stands : l.heap.stands ≡ l.initial.heap.stands;
  goes : (machinery : Machinery) (machine : Machine) → l.layouts ≡ machinery.setting.layouts
      → GoesOver machinery (stood machine (lines_left l.first l.insts) (map number l.initial.registers) l.initial.heap)
      (stood machine (lines_left l.next (drop l.place l.insts)) (map number l.registers) l.heap);
}
