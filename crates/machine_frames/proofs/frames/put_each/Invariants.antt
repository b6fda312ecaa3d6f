use Rattle.std.proofs.Common.{◌≡◌, ◌+◌, ◌≤◌, map, drop}
use Rattle.ir_ast.specs.Objects.{number}
use Rattle.object_meaning.specs.Lines.{after_all}
use Rattle.object_meaning.specs.Registers.{put_all}
use Rattle.machine_meaning.specs.Machines.{slot_put}
use Rattle.machine_lines.specs.Lines.{lines_left}
use Rattle.machine_frames.proofs.frames.put_each.Given as goal

abbrev pub invariant-loop-place : goal.invariant-loop-place
invariant-loop-place l = record {
  put : put_all (map (slot_put l.stack (number l.answer)) (lines_left l.next (drop l.place l.members))) (map number l.registers)
      ≡ put_all (map (slot_put l.stack (number l.answer)) (lines_left l.first l.members)) (map number l.initial.registers);
  near : l.next ≤ l.first + l.place;
  next : after_all l.next (drop l.place l.members) ≡ after_all l.first l.members;
}
