use Rattle.std.proofs.Common.{◌∙◌, ap, sym, refl, List, ◌++◌, ◌∷◌, []}
use Rattle.version_walk.specs.Forest.{as_child}
use Rattle.version_walk.proofs.ForestLemmas.{list_is, put_at, put_whole}
use Rattle.version_walk.proofs.forest.Forest.add.Goals as goal

pub returns-in_ok-push-in-Some : goal.returns-in_ok-push-in-Some
returns-in_ok-push-in-Some c =
    let children = c.args.self.now.children.items in
    let below = c.requires c.in-Some.place c.in-Some.is in
    let pushed = c.in_ok-push-in-Some.ensures.items
    ∙ ap (λ (xs : List _). xs ++ c.args.block ∷ []) (sym (list_is children c.in-Some.place c.index_mut.result.now below c.index_mut.ensures.value)) in
    as_child c.in-Some.place c.in-Some.is refl (put_whole children c.in-Some.place c.push-in-Some.new.self)
    (put_at children c.in-Some.place c.push-in-Some.new.self c.args.block below pushed)
