use Rattle.std.proofs.Common.{◌≡◌, ◌∙◌, ◌++◌, ap, sym, [], ◌∷◌, List, Vec, Global, set, get_or}
use Rattle.std.specs.Prelude.{map}
use Rattle.std.proofs.lemmas.List.{get_or-map, map-set, set-get_or}
use Rattle.ir_reader.specs.declared.raw.NumberedReading.{NumberedReading}
use Rattle.ir_reader.proofs.Weaving.{on-err}
use Rattle.ir_reader.proofs.woven.push_inner.Goals as goal

pub returns-clause-bodies : goal.returns-clause-bodies
returns-clause-bodies c =
    let items : Vec NumberedReading Global → List NumberedReading = λ body. body.items in
    let bodies = c.args.bodies.now.items in
    let place = c.args.place in
    let line = c.args.line in
    let is : c.index_mut-body.result.now ≡ get_or bodies place c.index_mut-body.result.now = c.index_mut-body.ensures.value in
    map-set items bodies place c.push_reserved.new.self
    ∙ ap (λ r. set (map items bodies) place r)
    (c.push_reserved.ensures.items
    ∙ ap (λ (r : List NumberedReading). r ++ line ∷ []) (c.reserve.ensures.items ∙ ap items is ∙ sym (get_or-map items bodies place c.index_mut-body.result.now [] c.requires)))

pub returns-in_err-reserve-clause-same : goal.returns-in_err-reserve-clause-same
returns-in_err-reserve-clause-same c =
    let items : Vec NumberedReading Global → List NumberedReading = λ body. body.items in
    let bodies = c.args.bodies.now.items in
    let place = c.args.place in
    let is : c.index_mut-body.result.now ≡ get_or bodies place c.index_mut-body.result.now = c.index_mut-body.ensures.value in
    on-err c.from_residual.result
    (map-set items bodies place c.reserve.new.self
    ∙ ap (λ (r : List NumberedReading). set (map items bodies) place r)
    (c.reserve.ensures.items ∙ ap items is ∙ sym (get_or-map items bodies place c.index_mut-body.result.now [] c.requires))
    ∙ set-get_or (map items bodies) place [])
