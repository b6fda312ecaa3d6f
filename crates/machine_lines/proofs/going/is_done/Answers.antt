use Rattle.std.proofs.Common.{List, sym, ap, ◌∙◌, subst}
use Rattle.ir_ast.specs.declared.ops.Callee.{Callee}
use Rattle.ir_ast.specs.declared.ops.Op.TheVariants.{Call}
use Rattle.moving_heap.specs.Contents.{Content}
use Rattle.moving_heap.specs.Heaps.{HeapView, loaded}
use Rattle.moving_heap.specs.Places.{owner}
use Rattle.machine_lines.specs.Going.{Does}
use Rattle.machine_lines.proofs.AccessLemmas.{done_ok}
use Rattle.machine_lines.proofs.DeniedLemmas.{store_denied}
use Rattle.machine_lines.proofs.GoingLemmas.{check_does, store_does}
use Rattle.machine_lines.proofs.going.is_done.Goals as goal

pub returns-in-Ok-clause-done : goal.returns-in-Ok-clause-done
returns-in-Ok-clause-done c = λ is_true layouts.
    let inst = c.args.inst.now in let registers = c.args.registers.now in let heap = c.args.heap.now in let p = c.second_word-place.result in let word = c.first_word-word.result in
    let found = done_ok (loaded heap p) c.in-Ok.ensures.answer in
    subst (λ (later : HeapView). Does layouts inst registers heap 0 later) (sym c.in-Ok.ensures.changed)
    (store_does layouts inst registers heap p word found.word (sym c.op.ensures ∙ c.in-Store.is) (c.first_word-word.ensures inst c.requires) (c.second_word-place.ensures inst c.requires) found.is)

pub returns-in-Err-clause-kept : goal.returns-in-Err-clause-kept
returns-in-Err-clause-kept c = λ is.
    let heap = c.args.heap.now in let p = c.second_word-place.result in
    c.in-Err.ensures.changed ∙ ap (λ (contents : List Content). record heap { contents = contents }) (store_denied heap.contents p c.first_word-word.result c.in-Err._deny (owner heap.stands p) c.in-Err.ensures.answer)

pub returns-in-Ok-check-clause-done : goal.returns-in-Ok-check-clause-done
returns-in-Ok-check-clause-done c = λ is_true layouts.
    let inst = c.args.inst.now in
    check_does layouts inst c.args.registers.now c.args.heap.now c.in-Call.types c.first_word-base.result c.second_word-place-in-Check.result c.third_word.result
    c.cell_named-kind.result (sym c.op.ensures ∙ c.in-Call.is ∙ ap (λ (callee : Callee). Call callee c.in-Call.types) c.in-Check.is) (c.first_word-base.ensures inst c.requires) (c.second_word-place-in-Check.ensures inst c.requires)
    (c.third_word.ensures inst c.requires) c.cell_named-kind.ensures (sym c.in-Ok-check.is ∙ c.check.ensures)
