use Rattle.std.proofs.Common.{ℕ, ◌-◌, sym, ap, ◌∙◌}
use Rattle.std.specs.Prelude.{Option}
use Rattle.cell_rows.specs.Rows.{place_in}
use Rattle.object_store.specs.Stored.{objects_of, written}
use Rattle.object_store.specs.Words.{datum}
use Rattle.object_store.proofs.CellLemmas.{write_is, with_cell_is}
use Rattle.object_store.proofs.objects.set_word.Goals as goal

pub returns-clause-objects : goal.returns-clause-objects
returns-clause-objects c =
    let place = c.place_of-place.ensures ∙ ap (λ (k : ℕ). place_in c.args.shapes.now k c.args.cell) c.saturating_sub.ensures in
    ap (objects_of c.args.shapes.now) (c.write_at.ensures.words ∙ ap (λ (p : Option ℕ). written c.args.words.now p c.args.word) place)
    ∙ write_is c.args.shapes.now c.args.words.now (c.args.object - 1) c.args.cell c.args.word
    ∙ sym (with_cell_is (objects_of c.args.shapes.now c.args.words.now) (c.args.object - 1) c.args.cell (datum c.args.word))
