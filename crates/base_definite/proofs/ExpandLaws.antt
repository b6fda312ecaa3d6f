-- A function whose lines stand for those of another, several for one: where a value isn't defined there, it isn't here.
use Rattle.std.proofs.Common.{◌≡◌, ℕ, zero, suc, ◌<◌, ◌≤◌, length, refl, sym, ap, subst, inl, inr, arith}
use Rattle.std.specs.Prelude.{Some, slice_get}
use Rattle.std.proofs.lemmas.Bool.{cases_lt}
use Rattle.list_laws.proofs.Places.{get_some}
use Rattle.ir_ast.specs.Blocks.{BasicBlock}
use Rattle.ir_ast.specs.Funcs.{Function}
use Rattle.ir_cfg.specs.DefiniteUses.{Defines}
use Rattle.ir_cfg.specs.Graphs.{Edge, Graph, graph_of}
use Rattle.base_definite.proofs.base_paths.UndefinedLaws.{Undefined, at_first, behind_edge, behind_line}

-- the lines for the line at a place of a block begin at an offset of the block; the last of them defines what it defines
pub record Expands (func other : Function) (now : ℕ → ℕ) : Type 0 where
  pub offset : ℕ → ℕ → ℕ
  pub first : (number : ℕ) → offset number 0 ≡ 0
  pub rises : (number place : ℕ) (block : BasicBlock) → slice_get func.blocks number ≡ Some block → place < length block.insts → offset number place < offset number (suc place)
  pub found : (number : ℕ) (block : BasicBlock) → slice_get other.blocks number ≡ Some block
      → (own : BasicBlock) × (slice_get func.blocks number ≡ Some own) × (offset number (length own.insts) ≡ length block.insts)
  pub defines : (value number place : ℕ) → Defines func value number place → (before : ℕ) × (offset number (suc place) ≡ suc before) × Defines other (now value) number before
  pub graph : graph_of other ≡ graph_of func

module _ (func other : Function) (now : ℕ → ℕ) (expands : Expands func other now) where
  pub monotone : (number : ℕ) (block : BasicBlock) → slice_get func.blocks number ≡ Some block → (place later : ℕ) → place ≤ later → later ≤ length block.insts
      → expands.offset number place ≤ expands.offset number later
  monotone number block found place zero le within = let same : place ≡ 0 = omega arith in (let e = ap (expands.offset number) same in omega arith)
  monotone number block found place (suc later) le within = elim (cases_lt place (suc later)) [
    | inl less ↦
        let rest = monotone number block found place later (omega arith) (omega arith) in
        let up = expands.rises number later block found (omega arith) in
        omega arith
    | inr most ↦ let same : place ≡ suc later = omega arith in (let e = ap (expands.offset number) same in omega arith)
  ]

  strictly : (number : ℕ) (block : BasicBlock) → slice_get func.blocks number ≡ Some block → (place : ℕ) → place ≤ length block.insts → expands.offset number place ≤ 0 → place ≡ 0
  strictly number block found zero within none = refl
  strictly number block found (suc place) within none =
      absurd (let up = expands.rises number place block found (omega arith) in omega arith)

  -- each line whose lines begin no later
  abbrev pub NoneHere : ℕ → ℕ → ℕ → Type 0
  NoneHere value number place =
      (own : ℕ) (block : BasicBlock) → slice_get func.blocks number ≡ Some block → own ≤ length block.insts → expands.offset number own ≤ place → Undefined func value number own

  -- one line further: those that began no later, and one that begins just there
  pub one_more : (value number place : ℕ) → NoneHere value number place
      → ((own : ℕ) (block : BasicBlock) → slice_get func.blocks number ≡ Some block → suc own ≤ length block.insts → expands.offset number (suc own) ≡ suc place → Defines func value number own → ⊥)
      → NoneHere value number (suc place)
  one_more value number place before none zero block found within le = before 0 block found (omega arith) (let e = expands.first number in omega arith)
  one_more value number place before none (suc own) block found within le = elim (cases_lt place (expands.offset number (suc own))) [
    | inr early ↦ before (suc own) block found within early
    | inl here ↦
        let up = expands.rises number own block found (omega arith) in
        let some = get_some block.insts own (omega arith) in
        behind_line number own some.0 (before own block found (omega arith) (omega arith)) (record { block = block; in_function = found; in_block = some.1 })
        (none own block found within (omega arith))
  ]

  pub at_entry_none : (value : ℕ) → NoneHere value 0 0
  at_entry_none value own block found within le =
      subst (λ (n : ℕ). Undefined func value 0 n) (sym (strictly 0 block found own within le)) at_first

  pub over_edge_none : (value from to : ℕ) (block : BasicBlock) → NoneHere value from (length block.insts) → slice_get other.blocks from ≡ Some block → Edge (graph_of other) from to → NoneHere value to 0
  over_edge_none value from to block before found edge own own_block own_found within le =
      let there = expands.found from block found in
      let end = there.2 in
      let clean = before (length there.0.insts) there.0 there.1 (omega arith) (omega arith) in
      subst (λ (n : ℕ). Undefined func value to n) (sym (strictly to own_block own_found own within le))
      (behind_edge from to there.0 clean there.1 (subst (λ (g : Graph). Edge g from to) expands.graph edge))

  -- where a value isn't defined there, it isn't here
  pub none_here : (value number place : ℕ) → Undefined other (now value) number place → NoneHere value number place
  none_here value _ _ at_first = at_entry_none value
  none_here value _ _ (behind_line number place inst before stands none) =
      one_more value number place (none_here value number place before)
      (λ own block found within offset defines.
      let there = expands.defines value number own defines in
      let same : there.0 ≡ place = (let end = there.1 in omega arith) in
      none (subst (λ (n : ℕ). Defines other (now value) number n) same there.2))
  none_here value _ _ (behind_edge from to block before found edge) = over_edge_none value from to block (none_here value from (length block.insts) before) found edge
