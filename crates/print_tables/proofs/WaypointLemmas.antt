-- Waypoints, and the results that stand before them.
use Rattle.std.proofs.Common.{◌≡◌, ℕ, true, false, ◌+◌, ◌<◌, List, ◌++◌, Option, Some, None, is_some, suc, length, drop, get_or, refl, sym, ap, ◌∙◌, add-one, drop-cons, arith}
use Rattle.std.proofs.lemmas.Bool.{true≢false}
use Rattle.ir_ast.specs.Insts.{Instruction}
use Rattle.ir_ast.specs.Blocks.{BasicBlock}
use Rattle.ir_ast.specs.Funcs.{instructions_of}
use Rattle.print_tables.specs.Names.{result_name}
use Rattle.print_tables.specs.Waypoints.{instructions_from, StandBefore, IsWaypoint}
use Rattle.print_tables.proofs.NameLemmas.{result_name-at_later, result_name-at_none}

-- the instructions from a place in the block with this number on
pub instructions_from-drop : (blocks : List BasicBlock) (place inst : ℕ) (block : BasicBlock) → place < length blocks → block ≡ get_or blocks place block → instructions_from (drop place blocks) inst ≡ drop inst block.insts ++ instructions_of (drop (place + 1) blocks)
instructions_from-drop blocks place inst block within is = rw (add-one, drop-cons blocks place block, ← is)

-- a place with as many results before it is a waypoint
pub IsWaypoint-here : (blocks : List BasicBlock) (place inst results : ℕ) (block : BasicBlock) (items : List Instruction) → place < length blocks → block ≡ get_or blocks place block → items ≡ block.insts → StandBefore (instructions_of blocks) (drop inst items ++ instructions_of (drop (place + 1) blocks)) results → IsWaypoint blocks (record { results = results; block = place; inst = inst })
IsWaypoint-here blocks place inst results block items within is same before number =
    before number ∙ ap (λ (rest : List Instruction). result_name rest number) (rw (instructions_from-drop blocks place inst block within is, same))

-- one more result stands behind an instruction that has one
pub StandBefore-some : (insts items : List Instruction) (place : ℕ) (inst : Instruction) (later : List Instruction) (results : ℕ) → place < length items → inst ≡ get_or items place inst → is_some inst.result ≡ true → StandBefore insts (drop place items ++ later) results → StandBefore insts (drop (place + 1) items ++ later) (results + 1)
StandBefore-some insts items place inst later results within is some before number = by_result inst.result refl some
  where
    by_result : (result : Option (List ℕ)) → inst.result ≡ result → is_some result ≡ true → result_name insts (results + 1 + number) ≡ result_name (drop (place + 1) items ++ later) number
    by_result None named some = absurd (true≢false (sym some))
    by_result (Some name) named some =
        let one : results + 1 + number ≡ results + suc number = omega arith in
        rw one (before (suc number) ∙ result_name-at_later items place inst later (suc number) number name within is named refl)

-- as many behind one that has none
pub StandBefore-none : (insts items : List Instruction) (place : ℕ) (inst : Instruction) (later : List Instruction) (results : ℕ) → place < length items → inst ≡ get_or items place inst → is_some inst.result ≡ false → StandBefore insts (drop place items ++ later) results → StandBefore insts (drop (place + 1) items ++ later) results
StandBefore-none insts items place inst later results within is none before number = by_result inst.result refl none
  where
    by_result : (result : Option (List ℕ)) → inst.result ≡ result → is_some result ≡ false → result_name insts (results + number) ≡ result_name (drop (place + 1) items ++ later) number
    by_result None named none = before number ∙ result_name-at_none items place inst later number within is named
    by_result (Some name) named none = absurd (true≢false none)
