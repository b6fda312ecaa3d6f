use Rattle.std.proofs.Common.{List, ◌++◌, sym, ap, ◌∙◌, arith, length, map, append_assoc}
use Rattle.std.proofs.lemmas.List.{length-append}
use Rattle.object_store.specs.declared.words.Word.{Word}
use Rattle.object_store.specs.Stored.{blank_word, blank_words}
use Rattle.cell_rows.proofs.RowLemmas.{turn_fits}
use Rattle.object_store.proofs.CellLemmas.{blank_more, blank_length}
use Rattle.object_store.proofs.cells.add_blanks.Goals as goal

pub add_element-requires : goal.add_element-requires
add_element-requires c =
    let size = ap length c.loop-element.invariant.items ∙ length-append c.args.words.now.items (blank_words c.args.fields.now c.loop-element.element) in
    let part = blank_length c.args.fields.now c.loop-element.element in
    let fits = turn_fits c.loop-element.element c.args.count (length c.args.fields.now) c.loop-element-test.true in
    omega (arith, c.requires, c.loop-element.invariant.room)

pub loop-element-preserved : goal.loop-element-preserved
loop-element-preserved c = record {
  items = c.add_element.ensures.items ∙ ap (λ (front : List Word). front ++ map blank_word c.args.fields.now) c.loop-element.invariant.items
      ∙ append_assoc c.args.words.now.items (blank_words c.args.fields.now c.loop-element.element) (map blank_word c.args.fields.now)
      ∙ ap (λ (rest : List Word). c.args.words.now.items ++ rest) (sym (blank_more c.args.fields.now c.loop-element.element));
  room = omega (arith, c.add_element.ensures.room, c.loop-element.invariant.room);
}
