use Rattle.std.proofs.Common.{ℕ, map, ap, ◌∙◌}
use Rattle.ir_ast.specs.Objects.{number}
use Rattle.object_meaning.specs.Jumps.{phi_write}
use Rattle.machine_lines.specs.Lines.{lines_left}
use Rattle.machine_frames.specs.Landings.{IsEdge, copy_write, phis_of}
use Rattle.machine_frames.proofs.copies.copies_on.Goals as goal

pub returns-then-edge-from : goal.returns-then-edge-from
returns-then-edge-from c = λ site is registers.
    let edge : IsEdge site c.in-Some.edge = rw c.in-Some.is at is in
    ap (map (copy_write registers)) c.as_slice.ensures.value
    ∙ edge registers
    ∙ ap (λ (from : ℕ). map (phi_write from (map number registers)) (lines_left site.first (phis_of site.insts))) c.if-edge-from.true
