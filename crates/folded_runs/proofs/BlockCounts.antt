-- The blocks of a folded function, and the registers with which they begin.
use Rattle.std.proofs.Common.{◌≡◌, ℕ, zero, suc, ◌+◌, ◌-◌, Bool, true, false, not, ◌&&◌, if◌then◌else◌, List, [], ◌∷◌, length, map, refl, sym, ap, ◌∙◌, arith}
use Rattle.std.specs.Prelude.{is_some, slice_get, slice_index}
use Rattle.std.specs.Option.{option_map}
use Rattle.std.proofs.lemmas.List.{length-map}
use Rattle.ir_ast.specs.Insts.{Instruction}
use Rattle.ir_ast.specs.Blocks.{BasicBlock}
use Rattle.object_meaning.specs.Lines.{after_all, first_registers, following}
use Rattle.object_meaning.proofs.LineLaws.{after_append}
use Rattle.folded_forms.specs.Folded.{Table, folded_blocks, folded_insts, folded_line, folded_lines, stays}
use Rattle.folded_source.proofs.PlaceLaws.{folded_block}
use Rattle.folded_source.proofs.ValueLaws.{counted}
use Rattle.folded_runs.proofs.CountLaws.{count_goes, count_stays}

module _ (table : Table) where
  one_folded : (next : ℕ) (inst : Instruction) → after_all (counted table next) (folded_lines table next inst) ≡ counted table (following next inst)
  one_folded next inst = by (is_some inst.result) (stays table next) refl refl
    where
      next_is : next + 1 ≡ suc next
      next_is = omega arith

      by : (named here : Bool) → is_some inst.result ≡ named → stays table next ≡ here
          → after_all (counted table next) (if named && not here then [] else folded_line table inst ∷ []) ≡ counted table (if named then next + 1 else next)
      by true true named is =
          ap (λ (b : Bool). if b then counted table next + 1 else counted table next) named ∙ (sym (count_stays table next is) ∙ ap (counted table) (sym next_is))
      by true false named is = sym (count_goes table next is) ∙ ap (counted table) (sym next_is)
      by false true named is = ap (λ (b : Bool). if b then counted table next + 1 else counted table next) named
      by false false named is = ap (λ (b : Bool). if b then counted table next + 1 else counted table next) named

  pub after_folded : (next : ℕ) (insts : List Instruction) → after_all (counted table next) (folded_insts table next insts) ≡ counted table (after_all next insts)
  after_folded next [] = refl
  after_folded next (inst ∷ insts) =
      after_append (counted table next) (folded_lines table next inst) (folded_insts table (following next inst) insts)
      ∙ (ap (λ n. after_all n (folded_insts table (following next inst) insts)) (one_folded next inst) ∙ after_folded (following next inst) insts)

  pub registers_folded : (next : ℕ) (blocks : List BasicBlock) → first_registers (counted table next) (folded_blocks table next blocks) ≡ map (counted table) (first_registers next blocks)
  registers_folded next [] = refl
  registers_folded next (block ∷ blocks) =
      ap (λ (registers : List ℕ). counted table next ∷ registers)
      (ap (λ n. first_registers n (folded_blocks table (after_all next block.insts) blocks)) (after_folded next block.insts)
      ∙ registers_folded (after_all next block.insts) blocks)

  pub count_index : (registers : List ℕ) (place : ℕ) → slice_index (map (counted table) registers) place ≡ counted table (slice_index registers place)
  count_index [] place = refl
  count_index (first ∷ registers) zero = refl
  count_index (first ∷ registers) (suc place) = count_index registers place

  pub last_index : (registers : List ℕ) → slice_index (map (counted table) registers) (length (map (counted table) registers) - 1) ≡ counted table (slice_index registers (length registers - 1))
  last_index registers =
      ap (λ n. slice_index (map (counted table) registers) (n - 1)) (length-map registers (counted table)) ∙ count_index registers (length registers - 1)

  pub block_folded : (next place : ℕ) (blocks : List BasicBlock) → slice_get (folded_blocks table next blocks) place
      ≡ option_map (folded_block table (slice_index (first_registers next blocks) place)) (slice_get blocks place)
  block_folded next place [] = refl
  block_folded next zero (block ∷ blocks) = refl
  block_folded next (suc place) (block ∷ blocks) = block_folded (after_all next block.insts) place blocks
