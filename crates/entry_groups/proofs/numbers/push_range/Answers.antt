use Rattle.std.proofs.Common.{◌∙◌, ◌++◌, ◌∷◌, [], ◌+◌, ℕ, List, ap, sym, append_assoc}
use Rattle.std.specs.List.{range_with_len}
use Rattle.entry_groups.proofs.numbers.push_range.Goals as goal
use Rattle.list_laws.proofs.Ranges.{range_more}

pub loop-place-preserved : goal.loop-place-preserved
loop-place-preserved c =
    let row = c.args.row.now.items in
    let first = c.args.first in
    let place = c.loop-place.place in
    c.in_ok-push.ensures.items
    ∙ ap (λ (xs : List ℕ). xs ++ (first + place) ∷ []) c.loop-place.invariant
    ∙ append_assoc row (range_with_len first place) ((first + place) ∷ [])
    ∙ ap (λ (xs : List ℕ). row ++ xs) (sym (range_more first place))
