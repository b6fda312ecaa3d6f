-- How many relocates the live lists of a function make, and those of the first functions among all.
use Rattle.std.proofs.Common.{◌≡◌, ℕ, suc, ◌+◌, ◌<◌, ◌≤◌, List, [], ◌∷◌, ◌++◌, length, map, take, drop, get_or, refl, sym, ap, subst, ◌∙◌, arith}
use Rattle.std.specs.Prelude.{sum}
use Rattle.std.proofs.Math.Seq.{drop-cons}
use Rattle.std.proofs.lemmas.List.{length-map, map-append, take-append-drop}
use Rattle.std.proofs.lemmas.List.Sums.{sum-map, sum_by-append, sum_by-cons}
use Rattle.ir_ast.specs.Funcs.{Function, LinedFunction, content_of}
use Rattle.ir_ast.specs.Operands.{valued}

sizes : (lists : List (List ℕ)) → map length (map (map valued) lists) ≡ map length lists
sizes [] = refl
sizes (list ∷ lists) =
    ap (λ (n : ℕ). n ∷ map length (map (map valued) lists)) (length-map list valued) ∙ ap (λ (rest : List ℕ). length list ∷ rest) (sizes lists)

pub sizes_valued : (lists : List (List ℕ)) → sum (map length (map (map valued) lists)) ≡ sum (map length lists)
sizes_valued lists = ap sum (sizes lists)

map_same : (funcs : List LinedFunction) → map (λ func. func) funcs ≡ funcs
map_same [] = refl
map_same (func ∷ funcs) = ap (λ (rest : List LinedFunction). func ∷ rest) (map_same funcs)

module _ (size : Function → ℕ) where
  -- the first ones and one more have no more than all
  sum_front : (funcs rest : List LinedFunction) (func : LinedFunction)
      → sum (map size (map content_of funcs)) + size func.content ≤ sum (map size (map content_of (funcs ++ func ∷ rest)))
  sum_front funcs rest func =
      let whole = ap (λ all. sum (map size all)) (map-append content_of funcs (func ∷ rest)) ∙ sum-map size (map content_of funcs ++ func.content ∷ map content_of rest) in
      let both = sum_by-append size (map content_of funcs) (func.content ∷ map content_of rest) in
      let last = sum_by-cons size func.content (map content_of rest) in
      let first = sum-map size (map content_of funcs) in
      omega (arith, whole, both, last, first)

  -- so have those that were given by a list's iterator, and the one that it gives next
  pub sum_within : (funcs yielded : List LinedFunction) (func : LinedFunction) → map (λ y. y) yielded ≡ take (length yielded) funcs
      → (length yielded < length funcs) × (func ≡ get_or funcs (length yielded) func)
      → sum (map size (map content_of yielded)) + size func.content ≤ sum (map size (map content_of funcs))
  sum_within funcs yielded func so_far turn =
      let n = length yielded in
      let same : yielded ≡ take n funcs = sym (map_same yielded) ∙ so_far in
      let split : yielded ++ func ∷ drop (suc n) funcs ≡ funcs =
      ap (λ (front : List LinedFunction). front ++ func ∷ drop (suc n) funcs) same
      ∙ ap (λ (next : LinedFunction). take n funcs ++ next ∷ drop (suc n) funcs) turn.1
      ∙ ap (λ (rest : List LinedFunction). take n funcs ++ rest) (sym (drop-cons funcs n func turn.0))
      ∙ take-append-drop n funcs in
      subst (λ (whole : List LinedFunction). sum (map size (map content_of yielded)) + size func.content ≤ sum (map size (map content_of whole))) split
      (sum_front yielded (drop (suc n) funcs) func)
