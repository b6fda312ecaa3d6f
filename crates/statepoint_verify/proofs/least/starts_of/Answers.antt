use Rattle.std.proofs.Common.{◌≡◌, ◌∙◌, ◌+◌, Some, refl, ap, arith, sym, subst, List, ℕ, length, slice_get}
use Rattle.std.proofs.lemmas.Option.{slice_get_read}
use Rattle.ir_ast.specs.Insts.{Instruction}
use Rattle.ir_ast.specs.Blocks.{BasicBlock}
use Rattle.statepoint_verify.proofs.LeastLemmas.{AreStartsUpTo, starts_none, starts_more, starts_step}
use Rattle.statepoint_verify.proofs.least.starts_of.Goals as goal
use Rattle.ir_ast.proofs.FuncLaws.{starts_low}

block_at : (items blocks : List BasicBlock) (k : ℕ) (block : BasicBlock) → items ≡ blocks → slice_get items k ≡ Some block → slice_get blocks k ≡ Some block
block_at items blocks k block same at = ap (λ (xs : List BasicBlock). slice_get xs k) (sym same) ∙ at

pub loop-block-init : goal.loop-block-init
loop-block-init c = subst (λ (starts : List ℕ). AreStartsUpTo c.args.func.now.content 0 0 starts) (sym c.new-starts.ensures.items) (starts_none c.args.func.now.content)

pub loop-block-preserved : goal.loop-block-preserved
loop-block-preserved c =
    let func = c.args.func.now.content in
    let items = c.blocks-block-items.result.now in
    let k = c.loop-block.block-index in
    let block = c.block-item.result in
    let at = block_at items func.blocks k block c.blocks-block-items.ensures.value
    (slice_get_read items (length items) k block refl c.loop-block-test.true c.block-item.is) in
    subst (λ (xs : List Instruction). AreStartsUpTo func (k + 1) (c.loop-block.next + length xs) c.push.new.self.items) (sym c.insts.ensures.value)
    (subst (λ (starts : List ℕ). AreStartsUpTo func (k + 1) (c.loop-block.next + length block.insts) starts) (sym c.in_ok-push.ensures.items)
    (starts_more func k c.loop-block.next block c.loop-block.starts.items at c.loop-block.invariant))

pub overflow_add-next : goal.overflow_add-next
overflow_add-next c =
    let func = c.args.func.now.content in
    let items = c.blocks-block-items.result.now in
    let k = c.loop-block.block-index in
    let block = c.block-item.result in
    let at = block_at items func.blocks k block c.blocks-block-items.ensures.value
    (slice_get_read items (length items) k block refl c.loop-block-test.true c.block-item.is) in
    omega (
      arith,
      ap length c.insts.ensures.value,
      c.loop-block.invariant.next_is,
      starts_step func.blocks k block at,
      starts_low func.blocks (k + 1),
      c.blocks-block-items.ensures.small.few_instructions,
    )

pub returns : goal.returns
returns c =
    λ block low. c.loop-block.invariant.each block (omega (arith, ap length c.blocks-block-items.ensures.value, low, c.loop-block-test.false))
