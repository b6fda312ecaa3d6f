use Rattle.std.proofs.Common.{◌≡◌, ℕ, List, length, map, take, ap, ◌∙◌, arith}
use Rattle.std.proofs.lemmas.List.{with_items_is}
use Rattle.ir_ast.specs.Insts.{Instruction}
use Rattle.ir_ast.specs.Objects.{Datum, number}
use Rattle.object_meaning.specs.Lines.{after_all}
use Rattle.object_meaning.specs.Registers.{put_all}
use Rattle.machine_meaning.specs.Machines.{slot_put}
use Rattle.machine_frames.specs.Frames.{frame_of}
use Rattle.machine_lines.specs.Lines.{lines_left}
use Rattle.machine_frames.proofs.FrameLemmas.{regroup_is}
use Rattle.machine_frames.proofs.frames.Frame.regroup.Goals as goal

pub returns : goal.returns
returns c =
    let frame = frame_of c.args.self.now in let stack = c.args.stack.now in let answer = number c.args.answer in
    let first = c.args.first in let all = c.args.rest.insts.now in let count = c.member_count-count.result in
    let registers : List Datum = map number c.put_members-next.new.registers in
    let put_so : registers ≡ put_all (map (slot_put stack answer) (lines_left first (take count all))) frame.registers =
    rw (c.front_of-members.ensures, c.as_mut_slice.ensures.value) at c.put_members-next.ensures.put in
    let kept : length c.put_members-next.new.registers ≡ c.args.self.now.registers.len = omega (arith, c.put_members-next.auto.registers, c.as_mut_slice.ensures.len) in
    ap (λ (rs : List ℕ). record frame { rest = lines_left c.put_members-next.result c.behind-self.result.insts.now; registers = map number rs }) (with_items_is c.args.self.now.registers c.put_members-next.new.registers kept)
    ∙ ap (λ (n : ℕ). record frame { rest = lines_left n c.behind-self.result.insts.now; registers = registers }) (c.put_members-next.ensures.next ∙ ap (after_all first) c.front_of-members.ensures)
    ∙ ap (λ (left : List Instruction). record frame { rest = lines_left (after_all first (take count all)) left; registers = registers }) c.behind-self.ensures
    ∙ regroup_is stack frame first all answer registers count c.member_count-count.ensures.value put_so
