-- One more function that is counted.
use Rattle.std.proofs.Common.{◌≡◌, ◌∙◌, ℕ, ◌+◌, ◌<◌, List, length, get_or, drop, map, ap, sym, arith}
use Rattle.std.specs.List.{sum_by}
use Rattle.std.proofs.Math.ListN.{get_or-map}
use Rattle.std.proofs.lemmas.List.{length-map}
use Rattle.std.proofs.lemmas.List.Sums.{sum_by-cons}
use Rattle.list_laws.proofs.Places.{drop_item}
use Rattle.ir_ast.specs.Funcs.{Function, LinedFunction, content_of}

pub count_step : (count : Function → ℕ) (found added total : ℕ) (funcs : List LinedFunction) (contents : List Function) (index : ℕ) (func : LinedFunction) → map content_of funcs ≡ contents → index < length funcs
    → func ≡ get_or funcs index func → added ≡ count func.content → found + sum_by count (drop index contents) ≡ total → (found + added) + sum_by count (drop (index + 1) contents) ≡ total
count_step count found added total funcs contents index func same below is counted known =
    let here : func.content ≡ get_or contents index func.content = ap content_of is ∙ sym (get_or-map content_of funcs index func) ∙ ap (λ xs. get_or xs index func.content) same in
    let within : index < length contents = omega (arith, ap length same, length-map funcs content_of) in
    let rest = sum_by count (drop (index + 1) contents) in
    let split : sum_by count (drop index contents) ≡ count func.content + rest = ap (sum_by count) (drop_item contents index func.content within here) ∙ sum_by-cons count func.content (drop (index + 1) contents) in
    omega (arith, split, counted, known)
