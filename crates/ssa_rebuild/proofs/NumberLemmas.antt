-- The numbers of a block's names go up by one from its first.
use Rattle.std.proofs.Common.{◌≡◌, ◌∙◌, ℕ, zero, suc, ◌<◌, ◌+◌, ◌-◌, List, ◌∷◌, ◌++◌, length, map, ap, sym, arith, subst, append_assoc}
use Rattle.std.specs.List.{flat_map, range_with_len}
use Rattle.std.proofs.lemmas.Grind.{flat_map-append}
use Rattle.ir_ast.specs.declared.ops.Operand.{Operand}
use Rattle.ir_ast.specs.Funcs.{Function}
use Rattle.list_laws.proofs.Places.{get_front, get_past}
use Rattle.rewriting_forms.specs.Names.{Name, own, Naming}
use Rattle.rewriting_forms.specs.Rewritten.{place_in, block_names, names_of}
use Rattle.rewriting_laws.proofs.PlaceLaws.{Rising, part_rises, Apart}
use Rattle.rewriting_laws.proofs.ApartLaws.{names_apart}
use Rattle.ssa_rebuild.specs.Rows.{start_of}

range_split : (from k n : ℕ) → range_with_len from (k + suc n) ≡ range_with_len from k ++ ((from + k) ∷ range_with_len ((from + k) + 1) n)
range_split from zero n =
    let z : 0 + suc n ≡ suc n = omega arith in
    let e : from ≡ from + 0 = omega arith in
    ap (range_with_len from) z ∙ ap (λ (m : ℕ). m ∷ range_with_len (m + 1) n) e
range_split from (suc k) n =
    let s : suc k + suc n ≡ suc (k + suc n) = omega arith in
    let e : (from + 1) + k ≡ from + suc k = omega arith in
    ap (range_with_len from) s ∙ ap (λ (xs : List ℕ). from ∷ xs) (range_split (from + 1) k n)
    ∙ ap (λ (m : ℕ). from ∷ (range_with_len (from + 1) k ++ (m ∷ range_with_len (m + 1) n))) e

pub rises_front : (number : Name → ℕ) (from : ℕ) (one other : List Name) → Rising number from (one ++ other) → Rising number from one
rises_front number from one other rises i name is = rises i name (get_front one other i name is)

pub rises_back : (number : Name → ℕ) (from : ℕ) (one other : List Name) → Rising number from (one ++ other) → Rising number (from + length one) other
rises_back number from one other rises i name is =
    let h = rises (length one + i) name (get_past one other i ∙ is) in
    omega (arith, h)

module _ (func : Function) (table : List Operand) (naming : Naming) where
  abbrev front_names : ℕ → List Name
  front_names b = map own (range_with_len 0 (length func.args)) ++ flat_map (block_names func table naming) (range_with_len 0 b)

  abbrev back_names : ℕ → List Name
  back_names b = flat_map (block_names func table naming) (range_with_len (b + 1) (length func.blocks - suc b))

  names_split : (b : ℕ) → b < length func.blocks → names_of func table naming ≡ front_names b ++ (block_names func table naming b ++ back_names b)
  names_split b below =
      let e : length func.blocks ≡ b + suc (length func.blocks - suc b) = omega arith in
      let z : 0 + b ≡ b = omega arith in
      let args = map own (range_with_len 0 (length func.args)) in
      let range : range_with_len 0 (length func.blocks) ≡ range_with_len 0 b ++ (b ∷ range_with_len (b + 1) (length func.blocks - suc b)) =
      ap (range_with_len 0) e ∙ range_split 0 b (length func.blocks - suc b)
      ∙ ap (λ (m : ℕ). range_with_len 0 b ++ (m ∷ range_with_len (m + 1) (length func.blocks - suc b))) z in
      ap (λ (bs : List ℕ). args ++ flat_map (block_names func table naming) bs) range
      ∙ ap (λ (ns : List Name). args ++ ns) (flat_map-append (block_names func table naming) (range_with_len 0 b) (b ∷ range_with_len (b + 1) (length func.blocks - suc b)))
      ∙ sym (append_assoc args (flat_map (block_names func table naming) (range_with_len 0 b)) (block_names func table naming b ++ back_names b))

  pub block_rises : (b : ℕ) → b < length func.blocks → Rising (place_in (names_of func table naming)) (start_of func table naming b) (block_names func table naming b)
  block_rises b below =
      let split = names_split b below in
      subst (λ (ns : List Name). Rising (place_in ns) (start_of func table naming b) (block_names func table naming b)) (sym split)
      (part_rises (front_names b) (block_names func table naming b) (back_names b) (subst Apart split (names_apart func table naming)))
