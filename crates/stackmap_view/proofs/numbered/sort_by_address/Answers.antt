use Rattle.std.proofs.Common.{rules}
use Rattle.std.proofs.lemmas.List.Sorted.{answers_always, IsNonDecreasingBy-from_sort}
use Rattle.stackmap_view.specs.Indexes.{address_of}
use Rattle.stackmap_view.proofs.numbered.sort_by_address.Goals as goal

pub returns : goal.returns
returns c = record {
  permutation = c.sort_by_key.ensures.permutation;
  sorted = IsNonDecreasingBy-from_sort address_of c.sort_by_key.new.self.items (c.in_ok-sort_by_key.ensures.sorted address_of (answers_always _ _ _ (λ f a r g called. search rules)));
  stable = c.sort_by_key.ensures.stable address_of (answers_always _ _ _ (λ f a r g called. search rules));
}
