use Rattle.std.proofs.Common.{◌≡◌, ℕ, ◌<◌, Option, List, length, map, sym, ap, ◌∙◌, arith}
use Rattle.ir_ast.specs.Objects.{Datum, number}
use Rattle.object_meaning.specs.Registers.{put}
use Rattle.machine_meaning.specs.Machines.{slot_put}
use Rattle.flat_code.proofs.RegisterLemmas.{after_more}
use Rattle.machine_lines.specs.Lines.{line_of}
use Rattle.machine_frames.proofs.FrameLemmas.{puts_more}
use Rattle.machine_frames.proofs.frames.put_each.Goals as goal

pub next_behind-next-requires : goal.next_behind-next-requires
next_behind-next-requires c = omega (arith, c.loop-place.invariant.near, c.requires.small, c.loop-place-test.true)

pub loop-place-preserved : goal.loop-place-preserved
loop-place-preserved c =
    let below : c.loop-place.place < length c.args.members.now = omega arith in
    let next = c.loop-place.next in let members = c.args.members.now in let i = c.loop-place.place in let member = c.index-members-place.result in
    let write = slot_put c.args.stack.now (number c.args.answer) in
    let registers : List Datum = map number c.loop-place.registers in let more : List Datum = map number c.put.new.registers in
    let put_so : more ≡ put (write (line_of next member)).to (write (line_of next member)).value registers =
    c.put.ensures ∙ ap (λ (to : Option ℕ). put to (number c.member_word-word.result) registers) c.register_of.ensures
    ∙ ap (λ (d : Datum). put (line_of next member).to d registers) (sym c.member_word-word.ensures) in
    record {
      put = puts_more write next c.next_behind-next.result members i member registers more _ below c.index-members-place.is c.next_behind-next.ensures.value put_so c.loop-place.invariant.put;
      near = omega (arith, c.next_behind-next.ensures.near, c.loop-place.invariant.near);
      next = after_more c.args.first next _ members i member below c.index-members-place.is c.next_behind-next.ensures.value c.loop-place.invariant.next;
    }
