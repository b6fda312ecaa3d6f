use Rattle.std.proofs.Common.{sym, ◌∙◌}
use Rattle.machine_lines.proofs.GoingLemmas.{gep_does, load_does, numbers_do}
use Rattle.machine_lines.proofs.going.word_given.Goals as goal

pub returns-then-one : goal.returns-then-one
returns-then-one c =
    numbers_do c.args.layouts.now c.args.inst.now c.args.registers.now c.args.heap.now c.args.one.now c.op.result.now c.ty.result.now c.outcome.result
    c.requires c.op.ensures c.ty.ensures c.outcome.ensures.plain c.outcome.ensures.value

pub returns-in-Gep : goal.returns-in-Gep
returns-in-Gep c =
    let inst = c.args.inst.now in
    gep_does c.args.layouts.now inst c.args.registers.now c.args.heap.now c.in-Gep.elem c.in-Gep.index_width c.in-Gep.place c.first_word-from.result c.second_word-index.result c.stepped_word.result
    (sym c.op-2.ensures ∙ c.in-Gep.is) (c.first_word-from.ensures inst c.requires) (c.second_word-index.ensures inst c.requires) c.stepped_word.ensures

pub returns-in-Ok : goal.returns-in-Ok
returns-in-Ok c =
    let inst = c.args.inst.now in
    load_does c.args.layouts.now inst c.args.registers.now c.args.heap.now c.first_word.result c.in-Ok.word
    (sym c.op-2.ensures ∙ c.in-Load.is) (c.first_word.ensures inst c.requires) (sym c.in-Ok.is ∙ c.load.ensures)
