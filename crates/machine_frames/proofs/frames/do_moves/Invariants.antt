use Rattle.std.proofs.Common.{◌≡◌, map, drop}
use Rattle.ir_ast.specs.Objects.{number}
use Rattle.object_meaning.specs.Registers.{put_all}
use Rattle.machine_frames.specs.Frames.{write_of}
use Rattle.machine_frames.proofs.frames.do_moves.Given as goal

abbrev pub invariant-loop-one : goal.invariant-loop-one
invariant-loop-one l = put_all (map write_of (drop l.one-index l.moves)) (map number l.registers) ≡ put_all (map write_of l.moves) (map number l.initial.registers)
