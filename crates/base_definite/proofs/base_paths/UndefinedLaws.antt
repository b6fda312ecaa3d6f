-- Paths that come to a place without a definition of a value: none leads to a use of it.
use Rattle.std.proofs.Common.{◌≡◌, ℕ, suc, ◌<◌, ◌≤◌, List, [], ◌∷◌, ◌++◌, length, refl, sym, ap, subst, ◌∙◌, ◌⊎◌, inl, inr, append_assoc, arith}
use Rattle.std.specs.Prelude.{Some, slice_get}
use Rattle.std.proofs.lemmas.List.{same_from_push}
use Rattle.std.proofs.lemmas.Bool.{cases_lt}
use Rattle.std.proofs.lemmas.Option.{slice_get_within}
use Rattle.ir_ast.specs.Insts.{Instruction}
use Rattle.ir_ast.specs.Blocks.{BasicBlock}
use Rattle.ir_ast.specs.Funcs.{Function}
use Rattle.ir_cfg.specs.Graphs.{Edge, graph_of}
use Rattle.ir_cfg.specs.Paths.{Path, along, at_entry}
use Rattle.ir_cfg.specs.DefiniteUses.{Defines, Meets, Stands, Uses, UsesAreDefinite, in_arguments, in_earlier, in_last}
use Rattle.definite_assign.proofs.PathLemmas.{path_ends}
use Rattle.definite_assign.proofs.TextLemmas.{one_definition, one_home}
use Rattle.base_definite.specs.Comings.{Comes, over_edge, past_line, to_entry}
use Rattle.base_definite.proofs.base_paths.GivesLaws.{defines_or_not}

-- a path comes to this place without a definition of the value
pub data Undefined (func : Function) (value : ℕ) : ℕ → ℕ → Type 0 where
  at_first : Undefined func value 0 0
  behind_line : (block place : ℕ) (inst : Instruction) → Undefined func value block place → Stands func block place inst
      → (Defines func value block place → ⊥) → Undefined func value block (suc place)
  behind_edge : (from to : ℕ) (block : BasicBlock) → Undefined func value from (length block.insts) → slice_get func.blocks from ≡ Some block
      → Edge (graph_of func) from to → Undefined func value to 0

-- the same with the blocks of the path
pub record Clean (func : Function) (value block place : ℕ) : Type 0 where
  pub path : List ℕ
  pub leads : Path (graph_of func) path block
  pub earlier : (front back : List ℕ) (left next at : ℕ) → path ≡ front ++ left ∷ next ∷ back → Defines func value left at → ⊥
  pub here : (at : ℕ) → Defines func value block at → at < place → ⊥

split_end : (back : List ℕ) → (back ≡ []) ⊎ ((front : List ℕ) × (last : ℕ) × (back ≡ front ++ last ∷ []))
split_end [] = inl refl
split_end (x ∷ back) = elim (split_end back) [
  | inl none ↦ inr ([], x, ap (λ (xs : List ℕ). x ∷ xs) none)
  | inr some ↦ inr (x ∷ some.0, some.1, ap (λ (xs : List ℕ). x ∷ xs) some.2)
]

defines_within : (func : Function) (value number at : ℕ) (block : BasicBlock) → slice_get func.blocks number ≡ Some block → Defines func value number at → at < length block.insts
defines_within func value number at block found defines =
    let both : Some defines.stands.block ≡ Some block = sym defines.stands.in_function ∙ found in
    let same : defines.stands.block ≡ block = cc in
    let within = slice_get_within defines.stands.block.insts at defines.inst defines.stands.in_block in
    let long : length defines.stands.block.insts ≡ length block.insts = ap (λ (b : BasicBlock). length b.insts) same in
    omega arith

pub clean_path : (func : Function) (value block place : ℕ) → Undefined func value block place → Clean func value block place
clean_path func value _ _ at_first = record {
  path = 0 ∷ [];
  leads = at_entry;
  earlier = λ front back left next at whole defines. no_pair front back left next whole;
  here = λ at defines before. omega arith;
}
  where
    no_pair : (front back : List ℕ) (left next : ℕ) → 0 ∷ [] ≡ front ++ left ∷ next ∷ back → ⊥
    no_pair [] back left next whole = cc
    no_pair (x ∷ []) back left next whole = cc
    no_pair (x ∷ y ∷ front) back left next whole = cc
clean_path func value _ _ (behind_line block place inst before stands none) =
    let clean = clean_path func value block place before in
    record {
      path = clean.path;
      leads = clean.leads;
      earlier = clean.earlier;
      here = λ at defines within. elim (cases_lt at place) [
        | inl less ↦ clean.here at defines less
        | inr le ↦ let same : at ≡ place = omega arith in none (subst (λ (k : ℕ). Defines func value block k) same defines)
      ];
    }
clean_path func value _ _ (behind_edge from to block before found edge) =
    let clean = clean_path func value from (length block.insts) before in
    record {
      path = clean.path ++ to ∷ [];
      leads = along clean.path from to clean.leads edge;
      earlier = λ front back left next at whole defines. left_earlier clean front back left next at whole defines;
      here = λ at defines within. omega arith;
    }
  where
    left_earlier : (clean : Clean func value from (length block.insts)) (front back : List ℕ) (left next at : ℕ) → clean.path ++ to ∷ [] ≡ front ++ left ∷ next ∷ back
        → Defines func value left at → ⊥
    left_earlier clean front back left next at whole defines = elim (split_end back) [
      | inl none ↦
          let same = same_from_push clean.path (front ++ left ∷ []) to next
          (whole ∙ (ap (λ (xs : List ℕ). front ++ left ∷ next ∷ xs) none ∙ sym (append_assoc front (left ∷ []) (next ∷ [])))) in
          let ends = path_ends (graph_of func) clean.path from clean.leads in
          let last = same_from_push ends.front front from left (sym ends.whole ∙ same.0) in
          let there = subst (λ (b : ℕ). Defines func value b at) (sym last.1) defines in
          clean.here at there (defines_within func value from at block found there)
      | inr some ↦
          let same = same_from_push clean.path (front ++ left ∷ next ∷ some.0) to some.1
          (whole ∙ (ap (λ (xs : List ℕ). front ++ left ∷ next ∷ xs) some.2 ∙ sym (append_assoc front (left ∷ next ∷ some.0) (some.1 ∷ [])))) in
          clean.earlier front some.0 left next at same.0 defines
    ]

clean_misses : (func : Function) (value block place : ℕ) → length func.args ≤ value → (clean : Clean func value block place) → Meets func value clean.path place → ⊥
clean_misses func value block place high clean (in_arguments below) = omega arith
clean_misses func value block place high clean (in_earlier front back left next at whole defines) = clean.earlier front back left next at whole defines
clean_misses func value block place high clean (in_last front last at whole defines before) =
    let ends = path_ends (graph_of func) clean.path block clean.leads in
    let same = same_from_push ends.front front block last (sym ends.whole ∙ whole) in
    clean.here at (subst (λ (b : ℕ). Defines func value b at) (sym same.1) defines) before

-- a use that is definite isn't one where the value is undefined
pub undefined_unused : (func : Function) → UsesAreDefinite func → (value : ℕ) → length func.args ≤ value → (line block place : ℕ) → Uses func line value block place
    → Undefined func value block place → ⊥
undefined_unused func definite value high line block place used undefined =
    let clean = clean_path func value block place undefined in
    clean_misses func value block place high clean (definite line value block place used clean.path clean.leads)

-- the line directly before doesn't define the value
pub last_defines_none : (func : Function) (value block later : ℕ) → Undefined func value block later → (place : ℕ) → later ≡ suc place → Defines func value block place → ⊥
last_defines_none func value _ _ at_first place is defines = omega arith
last_defines_none func value _ _ (behind_line block before inst earlier stands none) place is defines =
    let same : place ≡ before = omega arith in
    none (subst (λ (k : ℕ). Defines func value block k) same defines)
last_defines_none func value _ _ (behind_edge from to block before found edge) place is defines = omega arith

-- a path to a place has met no definition of a value, or came to its one definition without one
first_or : (func : Function) (value block place : ℕ) → Defines func value block place → (number at : ℕ) → Comes func number at
    → Undefined func value number at ⊎ Undefined func value block place
first_or func value block place defines _ _ to_entry = inl at_first
first_or func value block place defines _ _ (past_line number at inst path stands) = elim (first_or func value block place defines number at path) [
  | inr found ↦ inr found
  | inl clean ↦ elim (defines_or_not func value number at inst stands) [
    | inr none ↦ inl (behind_line number at inst clean stands none)
    | inl there ↦
        let home = one_home func value number at block place there defines in
        let same = one_definition func value number at block place there defines in
        inr (subst (λ (b : ℕ). Undefined func value b place) home (subst (λ (k : ℕ). Undefined func value number k) same clean))
  ]
]
first_or func value block place defines _ _ (over_edge from to left path found edge) = elim (first_or func value block place defines from (length left.insts) path) [
  | inr found_first ↦ inr found_first
  | inl clean ↦ inl (behind_edge from to left clean found edge)
]

-- the first time that a path comes to a definition, the value isn't defined
pub first_time : (func : Function) (value block place : ℕ) → Defines func value block place → Comes func block place → Undefined func value block place
first_time func value block place defines path = elim (first_or func value block place defines block place path) [ inl clean ↦ clean | inr clean ↦ clean ]
