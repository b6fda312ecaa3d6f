use Rattle.std.proofs.Common.{ℕ, ◌-◌, map, sym, ap, ◌∙◌}
use Rattle.cell_rows.specs.Rows.{place_in}
use Rattle.object_store.specs.Stored.{held}
use Rattle.object_store.specs.Words.{datum}
use Rattle.object_store.proofs.CellLemmas.{loaded_is}
use Rattle.object_store.proofs.objects.word_at.Goals as goal

pub returns : goal.returns
returns c =
    c.word_in.ensures ∙ ap (held (map datum c.args.words.now)) (c.place_of-place.ensures ∙ ap (λ (k : ℕ). place_in c.args.shapes.now k c.args.cell) c.saturating_sub.ensures)
    ∙ sym (loaded_is c.args.shapes.now c.args.words.now (c.args.object - 1) c.args.cell)
