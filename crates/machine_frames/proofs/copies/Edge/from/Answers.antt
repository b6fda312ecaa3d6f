use Rattle.std.proofs.Common.{◌+◌, ◌<◌, [], ◌∷◌, ◌++◌, length, map, drop, ap, ◌∙◌, arith}
use Rattle.std.proofs.lemmas.List.{map-append}
use Rattle.ir_ast.specs.Objects.{number}
use Rattle.object_meaning.specs.Jumps.{phi_write}
use Rattle.machine_lines.specs.Lines.{lines_left}
use Rattle.machine_frames.specs.Landings.{copy_write}
use Rattle.machine_frames.proofs.FrameLemmas.{writes_more}
use Rattle.machine_frames.proofs.copies.Edge.from.Goals as goal

pub loop-phi-preserved : goal.loop-phi-preserved
loop-phi-preserved c = λ registers.
    let below : c.loop-phi.phi-index < length c.args.phis.now = omega arith in
    let next = c.loop-phi.next in let phis = c.args.phis.now in let i = c.loop-phi.phi-index in let phi = c.phi-item.result in
    let write = phi_write c.args.from (map number registers) in let copies = c.loop-phi.copies.items in let copy = c.in-Some.copy in
    ap (λ writes. writes ++ map write (lines_left c.in_ok-after.after (drop (i + 1) phis)))
    (ap (map (copy_write registers)) c.in_ok-push.ensures.items ∙ map-append (copy_write registers) copies (copy ∷ []))
    ∙ writes_more write next c.in_ok-after.after phis i phi (map (copy_write registers) copies) _ (copy_write registers copy) below c.phi-item.is
    c.in_ok-after.ensures (c.in-Some.ensures registers) (c.loop-phi.invariant registers)
