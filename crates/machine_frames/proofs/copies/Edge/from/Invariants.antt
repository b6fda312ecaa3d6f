use Rattle.std.proofs.Common.{◌≡◌, ℕ, List, ◌++◌, map, drop}
use Rattle.ir_ast.specs.Objects.{number}
use Rattle.object_meaning.specs.Jumps.{phi_write}
use Rattle.machine_lines.specs.Lines.{lines_left}
use Rattle.machine_frames.specs.Landings.{copy_write}
use Rattle.machine_frames.proofs.copies.Edge.from.Given as goal

abbrev pub invariant-loop-phi : goal.invariant-loop-phi
invariant-loop-phi l = (registers : List ℕ)
    → map (copy_write registers) l.copies.items ++ map (phi_write l.from (map number registers)) (lines_left l.next (drop l.phi-index l.phis))
    ≡ map (phi_write l.from (map number registers)) (lines_left l.first l.phis)
