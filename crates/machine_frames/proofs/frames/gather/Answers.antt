use Rattle.std.proofs.Common.{◌≡◌, ℕ, ◌+◌, ◌<◌, Option, ◌∷◌, [], ◌++◌, length, map, drop, sym, ap, ◌∙◌, arith}
use Rattle.std.proofs.lemmas.List.{map-append}
use Rattle.ir_ast.specs.Objects.{Datum, number}
use Rattle.object_meaning.specs.Jumps.{phi_write}
use Rattle.object_meaning.specs.Registers.{Write}
use Rattle.machine_frames.specs.declared.frames.Move.{Move}
use Rattle.machine_frames.specs.Frames.{write_of}
use Rattle.machine_lines.specs.Lines.{line_of, lines_left}
use Rattle.machine_frames.proofs.FrameLemmas.{writes_more}
use Rattle.machine_frames.proofs.frames.gather.Goals as goal

pub loop-phi-preserved : goal.loop-phi-preserved
loop-phi-preserved c =
    let below : c.loop-phi.phi-index < length c.args.phis.now = omega arith in
    let next = c.loop-phi.next in let phis = c.args.phis.now in let i = c.loop-phi.phi-index in let phi = c.phi-item.result in
    let moves = c.loop-phi.moves.items in
    let one : Move = record { to = c.register_of.result; word = c.sought.result } in
    let one_is : write_of one ≡ phi_write c.args.from (map number c.args.registers.now) (line_of next phi) =
    ap (λ (to : Option ℕ). let w : Write = record { to = to; value = number c.sought.result } in w) c.register_of.ensures
    ∙ ap (λ (d : Datum). let w : Write = record { to = (line_of next phi).to; value = d } in w) (sym c.sought.ensures) in
    ap (λ writes. writes ++ map (phi_write c.args.from (map number c.args.registers.now)) (lines_left c.in_ok-after.after (drop (i + 1) phis)))
    (ap (map write_of) c.in_ok-push.ensures.items ∙ map-append write_of moves (one ∷ []))
    ∙ writes_more (phi_write c.args.from (map number c.args.registers.now)) next c.in_ok-after.after phis i phi (map write_of moves) _ (write_of one) below c.phi-item.is c.in_ok-after.ensures one_is c.loop-phi.invariant
