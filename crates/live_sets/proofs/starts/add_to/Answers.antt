use Rattle.std.proofs.Common.{◌∙◌, ap, sym, List, ◌++◌, ◌∷◌, []}
use Rattle.live_sets.proofs.StartLemmas.{grown_at, list_is}
use Rattle.live_sets.proofs.starts.add_to.Goals as goal

pub returns : goal.returns
returns g c =
    grown_at c.args.lists.now.items c.args.place c.push.new.self c.args.item c.requires
    (c.in_ok-push.ensures.items ∙ ap (λ (xs : List _). xs ++ c.args.item ∷ []) (sym (list_is c.args.lists.now.items c.args.place c.index_mut.result.now c.requires c.index_mut.ensures.value)))
