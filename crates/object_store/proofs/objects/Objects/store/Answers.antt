use Rattle.std.proofs.Common.{length, sym, ap, ◌∙◌}
use Rattle.std.proofs.lemmas.List.{with_items_is}
use Rattle.object_store.proofs.CellLemmas.{bytes_same}
use Rattle.object_store.proofs.objects.Objects.store.Goals as goal

pub invariant_of-self : goal.invariant_of-self
invariant_of-self c =
    let words = with_items_is c.self.inside.words c.store.new.words (c.store.ensures.count ∙ c.as_mut_slice.ensures.len) in
    let count = c.store.ensures.count ∙ ap length c.as_mut_slice.ensures.value in
    rw words (record {
      laid = record { ordered = c.self.invariant.laid.ordered; whole = c.self.invariant.laid.whole ∙ sym count };
      each = c.self.invariant.each;
      cells_fit = c.self.invariant.cells_fit;
      count_fits = c.self.invariant.count_fits;
      used_is = c.self.invariant.used_is ∙ bytes_same c.self.inside.layouts.now c.self.inside.shapes.items c.self.inside.words.items c.store.new.words;
      fits = c.self.invariant.fits;
    })
