use Rattle.std.proofs.Common.{List, sym, ap, ◌∙◌}
use Rattle.std.specs.Prelude.{Result, Ok}
use Rattle.sp_ids.specs.declared.ends.Trap.{Trap}
use Rattle.ir_ast.specs.Objects.{Object}
use Rattle.object_meaning.specs.Registers.{pointer_in}
use Rattle.object_store.specs.Stored.{objects_of, place_result, reached, store_to}
use Rattle.object_store.specs.Words.{datum}
use Rattle.object_store.proofs.CellLemmas.{accessed_is, at_is}
use Rattle.object_store.proofs.objects.store.Goals as goal

pub returns-in-Err-clause-stored : goal.returns-in-Err-clause-stored
returns-in-Err-clause-stored c =
    let objects : List Object = objects_of c.args.shapes.now c.args.words.now in
    let found = c.reach.ensures ∙ ap (reached c.args.layouts.now c.args.shapes.now c.args.asked) (at_is c.args.at c.object.result c.offset.result c.object.ensures c.offset.ensures)
    ∙ sym (accessed_is c.args.layouts.now c.args.shapes.now c.args.words.now c.args.asked (pointer_in (datum c.args.at))) in
    ap (store_to objects (datum c.args.word)) (sym (ap place_result c.in-Err.is) ∙ found)

pub returns-in-Ok-clause-stored : goal.returns-in-Ok-clause-stored
returns-in-Ok-clause-stored c =
    let objects : List Object = objects_of c.args.shapes.now c.args.words.now in
    let found = c.reach.ensures ∙ ap (reached c.args.layouts.now c.args.shapes.now c.args.asked) (at_is c.args.at c.object.result c.offset.result c.object.ensures c.offset.ensures)
    ∙ sym (accessed_is c.args.layouts.now c.args.shapes.now c.args.words.now c.args.asked (pointer_in (datum c.args.at))) in
    ap (λ (os : List Object). let r : Result (List Object) Trap = Ok os in r) c.set_word.ensures.objects
    ∙ ap (store_to objects (datum c.args.word)) (sym (ap place_result c.in-Ok.is) ∙ found)
