use Rattle.std.proofs.Common.{◌≡◌, List, ◌++◌, ◌∷◌, [], true, sym, ap, ◌∙◌, arith, length, map, take, append_assoc}
use Rattle.std.specs.Result.{is_ok}
use Rattle.std.proofs.lemmas.List.{length-append}
use Rattle.ir_ast.specs.declared.cells.Cell.TheVariants.{I64}
use Rattle.object_store.specs.declared.words.Word.{Word}
use Rattle.object_store.specs.Stored.{blank_word}
use Rattle.object_store.proofs.CellLemmas.{map_more, mapped_length}
use Rattle.object_store.proofs.cells.add_element.Goals as goal

pub loop-field-preserved : goal.loop-field-preserved
loop-field-preserved c =
    let size = ap length c.loop-field.invariant.items ∙ length-append c.args.words.now.items (map blank_word (take c.loop-field.field-index c.args.fields.now)) in
    let few = mapped_length blank_word c.args.fields.now c.loop-field.field-index in
    let ok : is_ok c.push.result ≡ true = c.push.ensures.succeeds (omega (arith, c.requires, c.loop-field.invariant.room, c.loop-field-test.true)) in
    let items = rw ok at c.push.ensures.items in
    record {
      items = items ∙ ap (λ (front : List Word). front ++ c.blank.result ∷ []) c.loop-field.invariant.items
          ∙ append_assoc c.args.words.now.items (map blank_word (take c.loop-field.field-index c.args.fields.now)) (c.blank.result ∷ [])
          ∙ ap (λ (word : Word). c.args.words.now.items ++ (map blank_word (take c.loop-field.field-index c.args.fields.now) ++ word ∷ [])) c.blank.ensures
          ∙ ap (λ (rest : List Word). c.args.words.now.items ++ rest) (sym (map_more blank_word c.args.fields.now c.loop-field.field-index I64 c.loop-field-test.true));
      room = omega (arith, c.push.ensures.capacity, c.loop-field.invariant.room);
    }
