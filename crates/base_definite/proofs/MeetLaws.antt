-- A path meets the definition of a value, or comes to its end without one.
use Rattle.std.proofs.Common.{◌≡◌, ℕ, zero, suc, ◌≤◌, List, [], ◌∷◌, ◌++◌, length, ap, ◌∙◌, ◌⊎◌, inl, inr, append_assoc, arith}
use Rattle.std.specs.Prelude.{Some, slice_get}
use Rattle.std.proofs.lemmas.List.{length-map}
use Rattle.list_laws.proofs.Places.{get_some}
use Rattle.ir_ast.specs.Blocks.{BasicBlock}
use Rattle.ir_ast.specs.Edges.{targets}
use Rattle.ir_ast.specs.Funcs.{Function}
use Rattle.ir_cfg.specs.DefiniteUses.{Meets, Stands, in_arguments, in_earlier, in_last}
use Rattle.ir_cfg.specs.Graphs.{graph_of}
use Rattle.ir_cfg.specs.Paths.{Path, along, at_entry}
use Rattle.ir_cfg.proofs.PathLemmas.{edge_within}
use Rattle.definite_assign.proofs.PathLemmas.{path_ends}
use Rattle.base_definite.proofs.base_paths.GivesLaws.{defines_or_not}
use Rattle.base_definite.proofs.base_paths.UndefinedLaws.{Undefined, at_first, behind_edge, behind_line}

module _ (func : Function) (value : ℕ) where
  meets_later : (path : List ℕ) (place later : ℕ) → place ≤ later → Meets func value path place → Meets func value path later
  meets_later path place later le (in_arguments below) = in_arguments below
  meets_later path place later le (in_earlier front back block next at whole defines) = in_earlier front back block next at whole defines
  meets_later path place later le (in_last front last at whole defines less) = in_last front last at whole defines (omega arith)

  meets_on : (path : List ℕ) (place to : ℕ) → Meets func value path place → Meets func value (path ++ to ∷ []) 0
  meets_on path place to (in_arguments below) = in_arguments below
  meets_on path place to (in_earlier front back block next at whole defines) =
      in_earlier front (back ++ to ∷ []) block next at (ap (λ (xs : List ℕ). xs ++ to ∷ []) whole ∙ append_assoc front (block ∷ next ∷ back) (to ∷ [])) defines
  meets_on path place to (in_last front last at whole defines less) =
      in_earlier front [] last to at (ap (λ (xs : List ℕ). xs ++ to ∷ []) whole ∙ append_assoc front (last ∷ []) (to ∷ [])) defines

  -- through a block
  scan : (path : List ℕ) (number : ℕ) (block : BasicBlock) → Path (graph_of func) path number → slice_get func.blocks number ≡ Some block
      → Meets func value path 0 ⊎ Undefined func value number 0 → (place : ℕ) → place ≤ length block.insts → Meets func value path place ⊎ Undefined func value number place
  scan path number block leads found start zero within = start
  scan path number block leads found start (suc place) within =
      let some = get_some block.insts place (omega arith) in
      let stands : Stands func number place some.0 = record { block = block; in_function = found; in_block = some.1 } in
      elim (scan path number block leads found start place (omega arith)) [
        | inl meets ↦ inl (meets_later path place (suc place) (omega arith) meets)
        | inr clean ↦ elim (defines_or_not func value number place some.0 stands) [
          | inr none ↦ inr (behind_line number place some.0 clean stands none)
          | inl defines ↦
              let ends = path_ends (graph_of func) path number leads in
              inl (in_last ends.front number place ends.whole defines (omega arith))
        ]
      ]

  at_block : (path : List ℕ) (number : ℕ) → Path (graph_of func) path number → Meets func value path 0 ⊎ Undefined func value number 0
  at_block _ _ at_entry = inr at_first
  at_block _ _ (along blocks from to path edge) =
      let long = length-map func.blocks targets in
      let some = get_some func.blocks from (let below = edge_within (graph_of func) from to edge in omega arith) in
      elim (scan blocks from some.0 path some.1 (at_block blocks from path) (length some.0.insts) (omega arith)) [
        | inl meets ↦ inl (meets_on blocks (length some.0.insts) to meets)
        | inr clean ↦ inr (behind_edge from to some.0 clean some.1 edge)
      ]

  pub meets_or_not : (path : List ℕ) (number place : ℕ) (block : BasicBlock) → Path (graph_of func) path number → slice_get func.blocks number ≡ Some block → place ≤ length block.insts
      → Meets func value path place ⊎ Undefined func value number place
  meets_or_not path number place block leads found within = scan path number block leads found (at_block path number leads) place within
