use Rattle.std.proofs.Common.{◌≡◌, ◌∙◌, ◌-◌, ap, sym, arith, length, get_or, ℕ, List, Bool, if◌then◌else◌, [], ◌∷◌, ◌+◌}
use Rattle.std.proofs.lemmas.List.{length-map}
use Rattle.sp_ids.specs.declared.ids.BlockId.{BlockId}
use Rattle.live_sets.specs.Ends.{end_row}
use Rattle.live_sets.proofs.EndLemmas.{rows_length, row_of_end, row_behind}
use Rattle.live_sets.proofs.ends.BackwardEdges.degree.Goals as goal

pub sources-requires : goal.sources-requires
sources-requires c =
    let places = c.args.self.now in
    let all = rows_length places.fronts places.firsts places.value in
    omega (arith, all, c.count-count.ensures.is, c.requires, c.if-node-count.true)

pub returns-then-node-count : goal.returns-then-node-count
returns-then-node-count c =
    let places = c.args.self.now in
    let place : c.args.node - length places.fronts ≡ c.args.node - c.count-count.result = omega (arith, c.count-count.ensures.is) in
    let row = row_behind places.fronts places.firsts places.value c.args.node (omega (arith, c.count-count.ensures.is, c.if-node-count.true)) in
    let same = ap length (row ∙ ap (λ (n : ℕ). get_or places.fronts n []) place ∙ sym c.sources.ensures) in
    let long = length-map c.sources.result.now (λ (from : BlockId). from.0) in
    omega (arith, same, long)

pub returns-then-gives : goal.returns-then-gives
returns-then-gives c =
    let places = c.args.self.now in
    let row = row_of_end places.fronts places.firsts places.value c.args.node (omega (arith, c.count-count.ensures.is, c.if-node-count.false)) in
    let one : end_row places.firsts places.value (length places.fronts) c.args.node ≡ [] =
    ap (λ (t : Bool). let xs : List ℕ = if t then [] else (length places.fronts + c.args.node) ∷ [] in xs) (sym c.gives.ensures ∙ c.if-gives.true) in
    sym (ap length (row ∙ one))

pub returns-else-gives : goal.returns-else-gives
returns-else-gives c =
    let places = c.args.self.now in
    let row = row_of_end places.fronts places.firsts places.value c.args.node (omega (arith, c.count-count.ensures.is, c.if-node-count.false)) in
    let one : end_row places.firsts places.value (length places.fronts) c.args.node ≡ (length places.fronts + c.args.node) ∷ [] =
    ap (λ (t : Bool). let xs : List ℕ = if t then [] else (length places.fronts + c.args.node) ∷ [] in xs) (sym c.gives.ensures ∙ c.if-gives.false) in
    sym (ap length (row ∙ one))
