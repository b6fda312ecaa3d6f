use Rattle.std.proofs.Common.{sym, ap, subst, ◌∙◌}
use Rattle.std.specs.Prelude.{option_map, Some}
use Rattle.std.specs.List.Sorted.{IsNonDecreasingBy}
use Rattle.map_bytes.specs.Entries.{Entry, entry_at}
use Rattle.stackmap_view.specs.Indexes.{IndexedMap, address_of, first_at}
use Rattle.stackmap_view.specs.Views.{seen}
use Rattle.stackmap_view.proofs.index.MapIndex.find.Goals as goal

pub returns-in-None-clause-found : goal.returns-in-None-clause-found
returns-in-None-clause-found c =
    ap (option_map seen) (sym c.in-None.is) ∙ c.search.ensures ∙ ap (λ items. option_map (λ one. seen one.lent) (first_at items c.args.return_address)) c.deref.ensures.value
    ∙ c.self.invariant.finds c.args.return_address ∙ ap (λ (index : IndexedMap). entry_at index.whole c.args.return_address) c.self.view_is

pub returns-in-Some-clause-found : goal.returns-in-Some-clause-found
returns-in-Some-clause-found c =
    ap (λ (one : Entry). Some one) c.found_in.ensures.same ∙ ap (option_map seen) (sym c.in-Some.is) ∙ c.search.ensures ∙ ap (λ items. option_map (λ one. seen one.lent) (first_at items c.args.return_address)) c.deref.ensures.value
    ∙ c.self.invariant.finds c.args.return_address ∙ ap (λ (index : IndexedMap). entry_at index.whole c.args.return_address) c.self.view_is

pub returns-in-Some-clause-map : goal.returns-in-Some-clause-map
returns-in-Some-clause-map c = c.found_in.ensures.map ∙ ap (λ (index : IndexedMap). index.whole) c.self.view_is

pub search-requires : goal.search-requires
search-requires c = subst (IsNonDecreasingBy address_of) (sym c.deref.ensures.value) c.self.invariant.sorted
