use Rattle.std.proofs.Common.{◌≡◌, ◌∙◌, ◌-◌, ap, sym, arith, length, get_or, ℕ, List, [], ◌+◌, Some}
use Rattle.std.specs.Prelude.{slice_get}
use Rattle.std.proofs.lemmas.List.{length-map}
use Rattle.sp_ids.specs.declared.ids.BlockId.{BlockId}
use Rattle.live_sets.specs.Ends.{gives_in}
use Rattle.live_sets.proofs.EndLemmas.{rows_length, row_of_end, row_behind, only_target}
use Rattle.live_sets.proofs.ends.BackwardEdges.target.Goals as goal

pub sources-requires : goal.sources-requires
sources-requires c =
    let places = c.args.self.now in
    let all = rows_length places.fronts places.firsts places.value in
    omega (arith, all, c.count-count.ensures.is, c.requires.node, c.if-node-count.true)

pub number_at-requires : goal.number_at-requires
number_at-requires c =
    let places = c.args.self.now in
    let place : c.args.node - length places.fronts ≡ c.args.node - c.count-count.result = omega (arith, c.count-count.ensures.is) in
    let row = row_behind places.fronts places.firsts places.value c.args.node (omega (arith, c.count-count.ensures.is, c.if-node-count.true)) in
    let same = ap length (row ∙ ap (λ (n : ℕ). get_or places.fronts n []) place ∙ sym c.sources.ensures) in
    let long = length-map c.sources.result.now (λ (from : BlockId). from.0) in
    omega (arith, same, long, c.requires.number)

pub returns-then-node-count : goal.returns-then-node-count
returns-then-node-count c =
    let places = c.args.self.now in
    let place : c.args.node - length places.fronts ≡ c.args.node - c.count-count.result = omega (arith, c.count-count.ensures.is) in
    let row = row_behind places.fronts places.firsts places.value c.args.node (omega (arith, c.count-count.ensures.is, c.if-node-count.true)) in
    ap (λ (xs : List ℕ). slice_get xs c.args.number) (row ∙ ap (λ (n : ℕ). get_or places.fronts n []) place ∙ sym c.sources.ensures) ∙ c.number_at.ensures

pub returns : goal.returns
returns c =
    let places = c.args.self.now in
    let row = row_of_end places.fronts places.firsts places.value c.args.node (omega (arith, c.count-count.ensures.is, c.if-node-count.false)) in
    let sum : length places.fronts + c.args.node ≡ c.count-count.result + c.args.node = omega (arith, c.count-count.ensures.is) in
    ap (λ (xs : List ℕ). slice_get xs c.args.number) row
    ∙ only_target (gives_in places.firsts places.value c.args.node) (length places.fronts + c.args.node) c.args.number (omega (arith, ap length row, c.requires.number)) ∙ ap Some sum
