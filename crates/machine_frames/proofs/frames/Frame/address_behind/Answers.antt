use Rattle.std.proofs.Common.{◌≡◌, ℕ, ◌-◌, List, length, sym, ap, ◌∙◌, arith}
use Rattle.object_meaning.specs.Lines.{following, first_register, insts_of}
use Rattle.machine_meaning.specs.Code.{code_address}
use Rattle.machine_meaning.specs.Machines.{behind}
use Rattle.machine_frames.specs.Frames.{lines_in}
use Rattle.machine_lines.specs.Lines.{lines_left}
use Rattle.machine_frames.proofs.LineLemmas.{count_lines}
use Rattle.machine_frames.proofs.frames.Frame.address_behind.Goals as goal

pub returns : goal.returns
returns c =
    let now = c.args.self.now in let code = c.args.code.now in let inst = c.args.inst.now in
    let next = following now.next inst in
    let left : length (behind inst.op (lines_left next c.args.rest.now)) ≡ c.left_behind-left.result =
    ap (λ op. length (behind op (lines_left next c.args.rest.now))) (sym c.op.ensures) ∙ c.left_behind-left.ensures next in
    let place : length (lines_in code now.func now.block) - length (behind inst.op (lines_left next c.args.rest.now)) ≡ c.saturating_sub.result =
    omega (arith, left, count_lines (first_register code now.func now.block) (insts_of code now.func now.block), ap length c.insts-insts.ensures, c.saturating_sub.ensures) in
    λ map plan bound. ap (code_address code now.func now.block) place ∙ sym c.address.ensures
