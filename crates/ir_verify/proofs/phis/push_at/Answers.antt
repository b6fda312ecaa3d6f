use Rattle.std.proofs.Common.{◌≡◌, ◌∙◌, ◌<◌, ℕ, List, [], ◌∷◌, ◌++◌, length, get_or, set, ap, sym, arith}
use Rattle.std.specs.Prelude.{map}
use Rattle.std.proofs.lemmas.List.{map-set, get_or-map}
use Rattle.ir_verify.proofs.phis.push_at.Goals as goal

pub returns-in_ok-push : goal.returns-in_ok-push
returns-in_ok-push c =
    let lists = c.args.lists.now.items in
    let place = c.args.place in
    let within : place < length lists = grind arith in
    let item : get_or (map (λ list. list.items) lists) place [] ≡ c.in-Some.list.now.items
    = get_or-map (λ list. list.items) lists place c.in-Some.list.now [] within ∙ ap (λ list. list.items) (sym c.in-Some.ensures.value) in
    map-set (λ list. list.items) lists place c.push.new.self
    ∙ ap (λ items. set (map (λ list. list.items) lists) place items)
    (◌∙◌ {A = List ℕ} c.in_ok-push.ensures.items (ap (λ items. items ++ c.args.number ∷ []) (sym item)))
