use Rattle.std.proofs.Common.{◌≡◌, ◌∙◌, ◌++◌, ap, sym, [], ◌∷◌, List, ℕ, Vec, Global, set, get_or}
use Rattle.std.specs.Prelude.{map}
use Rattle.std.proofs.lemmas.List.{get_or-map}
use Rattle.edge_rows.proofs.Rows.{set-map}
use Rattle.derived_values.proofs.users.push_user.Goals as goal

pub returns : goal.returns
returns c =
    let items : Vec ℕ Global → List ℕ = λ row. row.items in
    let rows = c.args.users.now.items in
    let value = c.args.value in
    let user = c.args.user in
    let is : c.index_mut.result.now ≡ get_or rows value c.index_mut.result.now = c.index_mut.ensures.value in
    set-map items rows value c.push.new.self
    ∙ ap (λ r. set (map items rows) value r)
    (c.in_ok-push.ensures.items ∙ ap (λ (r : Vec ℕ Global). r.items ++ user ∷ []) is
    ∙ ap (λ (r : List ℕ). r ++ user ∷ []) (sym (get_or-map items rows value c.index_mut.result.now [] c.requires)))
