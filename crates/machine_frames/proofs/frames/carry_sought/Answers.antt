use Rattle.std.proofs.Common.{ℕ, List, map, ap, ◌∙◌}
use Rattle.ir_ast.specs.Insts.{Instruction}
use Rattle.ir_ast.specs.Objects.{number}
use Rattle.object_meaning.specs.Jumps.{phi_write}
use Rattle.object_meaning.specs.Registers.{put_all}
use Rattle.machine_lines.specs.Lines.{lines_left}
use Rattle.machine_frames.specs.declared.frames.Move.{Move}
use Rattle.machine_frames.specs.Frames.{write_of}
use Rattle.machine_frames.proofs.frames.carry_sought.Goals as goal

pub returns : goal.returns
returns c =
    let registers = map number c.args.registers.now in let site = c.args.landing.now in
    let write = phi_write c.args.from registers in
    c.do_moves.ensures
    ∙ ap (λ (moves : List Move). put_all (map write_of moves) registers) c.as_slice.ensures.value
    ∙ ap (λ writes. put_all writes registers)
    (c.in_ok-gather.ensures
    ∙ ap (λ (n : ℕ). map write (lines_left n c.phis.result.now)) c.first.ensures
    ∙ ap (λ (phis : List Instruction). map write (lines_left site.first phis)) c.phis.ensures)
