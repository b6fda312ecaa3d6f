use Rattle.std.proofs.Common.{◌≡◌, sym, ap, ◌∙◌}
use Rattle.std.specs.Prelude.{false, true, is_some}
use Rattle.machine_lines.specs.declared.decoded.Decoded.{Decoded}
use Rattle.machine_lines.proofs.GoingLemmas.{done_line, gives_lines}
use Rattle.machine_lines.proofs.going.do_line.Goals as goal

pub returns-in_ok-word-clause-did : goal.returns-in_ok-word-clause-did
returns-in_ok-word-clause-did c =
    let gives : is_some c.args.inst.now.result ≡ true = sym (ap (λ (d : Decoded). d.gives) c.requires) ∙ c.if-one.true in
    gives_lines c.args.layouts.now c.args.inst.now c.args.registers.now c.args.heap.now c.args.next c.in_ok-word.word c.put_next.new.registers c.put_next.result gives c.in_ok-word.ensures c.put_next.ensures.some

pub returns-then-is_done-clause-did : goal.returns-then-is_done-clause-did
returns-then-is_done-clause-did c =
    let none : is_some c.args.inst.now.result ≡ false = sym (ap (λ (d : Decoded). d.gives) c.requires) ∙ c.if-one.false in
    done_line c.args.layouts.now c.args.inst.now c.args.registers.now c.args.heap.now c.args.next c.is_done.new.heap none (c.is_done.ensures.done c.if-is_done.true c.args.layouts.now)
