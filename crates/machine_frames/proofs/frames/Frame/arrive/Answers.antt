use Rattle.std.proofs.Common.{◌≡◌, ℕ, List, length, map, take, drop, refl, sym, ap, ◌∙◌, arith}
use Rattle.std.specs.List.{prefix_len}
use Rattle.std.proofs.lemmas.List.{with_items_is}
use Rattle.ir_ast.specs.Faults.PhiEdges.{is_phi}
use Rattle.ir_ast.specs.Insts.{Instruction}
use Rattle.ir_ast.specs.Objects.{Datum, number}
use Rattle.object_meaning.specs.Jumps.{arrived, phi_write}
use Rattle.object_meaning.specs.Lines.{after_all, first_register, insts_of}
use Rattle.object_meaning.specs.Registers.{put_all}
use Rattle.object_meaning.specs.States.{Frame}
use Rattle.machine_frames.specs.Frames.{frame_of}
use Rattle.machine_frames.specs.Landings.{Site, phis_of}
use Rattle.machine_frames.specs.Tables.{site_of}
use Rattle.machine_lines.specs.Lines.{lines_left}
use Rattle.machine_frames.proofs.FrameLemmas.{arrive_is}
use Rattle.machine_frames.proofs.frames.Frame.arrive.Goals as goal

pub returns-in-None : goal.returns-in-None
returns-in-None c =
    let frame = frame_of c.args.self.now in let block = c.args.block in let first = first_register c.args.code.now c.args.self.now.func block in
    let at : List Instruction → Frame = λ insts. record frame { block = block; rest = lines_left c.args.self.now.next insts } in
    ap at c.none-self.ensures ∙ sym (ap (λ (insts : List Instruction). arrived frame block (lines_left first insts)) c.in-None.ensures)

pub returns-in_ok-carry-in-Some : goal.returns-in_ok-carry-in-Some
returns-in_ok-carry-in-Some c =
    let frame = frame_of c.args.self.now in let code = c.args.code.now in let func = c.args.self.now.func in let block = c.args.block in
    let first = first_register code func block in let all = insts_of code func block in let count = prefix_len (λ inst. is_phi inst.op) all in
    let registers : List Datum = map number c.carry.new.registers in
    let site : c.in-Some.landing.now ≡ site_of code func block = c.in-Some.ensures in
    let writes : Site → List Datum = λ s. put_all (map (phi_write frame.block frame.registers) (lines_left s.first (phis_of s.insts))) frame.registers in
    let carried : registers ≡ writes c.in-Some.landing.now = rw c.as_mut_slice.ensures.value at c.in_ok-carry-in-Some.ensures in
    let put_so : registers ≡ put_all (map (phi_write frame.block frame.registers) (lines_left first (take count all))) frame.registers = carried ∙ ap writes site in
    let kept : length c.carry.new.registers ≡ c.args.self.now.registers.len = omega (arith, c.carry.auto.registers, c.as_mut_slice.ensures.len) in
    ap (λ (rs : List ℕ). record frame { block = block; rest = lines_left c.next-self.result c.rest-self.result.insts.now; registers = map number rs }) (with_items_is c.args.self.now.registers c.carry.new.registers kept)
    ∙ ap (λ (n : ℕ). record frame { block = block; rest = lines_left n c.rest-self.result.insts.now; registers = registers })
    (c.next-self.ensures ∙ ap (λ (s : Site). after_all s.first (phis_of s.insts)) site)
    ∙ ap (λ (left : List Instruction). record frame { block = block; rest = lines_left (after_all first (take count all)) left; registers = registers })
    (c.rest-self.ensures ∙ ap (λ (s : Site). drop (prefix_len (λ inst. is_phi inst.op) s.insts) s.insts) site)
    ∙ arrive_is frame block first all registers count refl put_so
