use Rattle.std.proofs.Common.{◌≡◌, ◌∙◌, ◌+◌, ap, arith, length, drop, sym, List, ◌++◌, ◌∷◌, [], ℕ}
use Rattle.list_laws.proofs.Places.{drop_at, get_read}
use Rattle.ir_ast.specs.Blocks.{BasicBlock}
use Rattle.ir_ast.specs.Funcs.{instructions_of}
use Rattle.object_meaning.specs.Lines.{after_all, first_registers}
use Rattle.live_sets.proofs.NumberLemmas.{firsts_push, block_room, block_grown}
use Rattle.live_sets.proofs.numbers.first_numbers.Goals as goal
use Rattle.object_meaning.proofs.LineLaws.{after_few}

pub after-next-requires : goal.after-next-requires
after-next-requires c =
    let blocks = c.blocks-block-items.result.now in
    let at = c.loop-block.block-index in
    let room = block_room blocks at c.block-item.result c.loop-block-test.true c.block-item.is in
    let same = ap (λ (bs : List BasicBlock). length (instructions_of bs)) c.blocks-block-items.ensures.value in
    let insts = ap length c.insts.ensures.value in
    omega (arith, room, same, insts, c.loop-block.invariant.small, c.blocks-block-items.ensures.small.few_instructions, c.blocks-block-items.ensures.small.few_arguments)

pub loop-block-preserved : goal.loop-block-preserved
loop-block-preserved c =
    let blocks = c.blocks-block-items.result.now in
    let at = c.loop-block.block-index in
    let block = c.block-item.result in
    let rest = drop_at blocks at block (get_read blocks at block c.loop-block-test.true c.block-item.is) in
    let step : c.after-next.result ≡ after_all c.loop-block.next block.insts = c.after-next.ensures ∙ ap (after_all c.loop-block.next) c.insts.ensures.value in
    let pushed : c.push.new.self.items ≡ c.loop-block.numbers.items ++ c.loop-block.next ∷ [] = c.in_ok-push.ensures.items in
    let small = after_few c.loop-block.next block.insts in
    let grown = block_grown blocks at block c.loop-block-test.true c.block-item.is in
    record {
      is = ap (λ (ns : List ℕ). ns ++ first_registers c.after-next.result (drop (at + 1) blocks)) pushed
          ∙ ap (λ (n : ℕ). (c.loop-block.numbers.items ++ c.loop-block.next ∷ []) ++ first_registers n (drop (at + 1) blocks)) step
          ∙ firsts_push c.loop-block.next block (drop (at + 1) blocks) c.loop-block.numbers.items
          ∙ sym (ap (λ (bs : List BasicBlock). c.loop-block.numbers.items ++ first_registers c.loop-block.next bs) rest)
          ∙ c.loop-block.invariant.is;
      small = omega (arith, step, small, grown, c.loop-block.invariant.small);
    }
