use Rattle.std.proofs.Common.{◌≡◌, ◌++◌, map, drop}
use Rattle.ir_ast.specs.Objects.{number}
use Rattle.object_meaning.specs.Jumps.{phi_write}
use Rattle.machine_frames.specs.Frames.{write_of}
use Rattle.machine_lines.specs.Lines.{lines_left}
use Rattle.machine_frames.proofs.frames.gather.Given as goal

abbrev pub invariant-loop-phi : goal.invariant-loop-phi
invariant-loop-phi l =
    map write_of l.moves.items ++ map (phi_write l.from (map number l.registers)) (lines_left l.next (drop l.phi-index l.phis))
    ≡ map (phi_write l.from (map number l.registers)) (lines_left l.first l.phis)
