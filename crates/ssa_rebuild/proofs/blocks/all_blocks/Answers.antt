use Rattle.std.proofs.Common.{◌∙◌, ◌≡◌, ◌++◌, ◌∷◌, [], ◌+◌, ℕ, List, ap, sym, arith, length}
use Rattle.std.proofs.lemmas.Iterator.Adapters.{YieldsList-from_vec}
use Rattle.std.proofs.lemmas.Iterator.Consumers.{YieldsList-turn}
use Rattle.std.proofs.lemmas.List.{length_push}
use Rattle.ir_ast.specs.Blocks.{BasicBlock}
use Rattle.ssa_rebuild.specs.declared.writing.Writing.{Writing}
use Rattle.ssa_rebuild.specs.Written.{block_after, blocks_written}
use Rattle.ssa_rebuild.proofs.WrittenLemmas.{blocks_behind, block_written, blocks_behind_push, blocks_push}
use Rattle.ssa_rebuild.proofs.blocks.all_blocks.Goals as goal

pub one_block-requires : goal.one_block-requires
one_block-requires c =
    let turn = YieldsList-turn (YieldsList-from_vec c.args.blocks.items (cc) (cc)) c.loop-block.yielded c.loop-block.block-iterator c.loop-block.yielded_by c.next.result c.next.new.self c.in-Some.block c.in-Some.is c.next.ensures.steps in
    omega (arith, turn.0, c.loop-block.invariant.number, c.requires.blocks)

pub loop-block-preserved : goal.loop-block-preserved
loop-block-preserved c =
    let graph = c.args.cfg.now in
    let groups = c.args.groups.now in
    let joins = c.args.joins.now in
    let rows = c.args.rows.now in
    let first = c.args.writing in
    let yielded = c.loop-block.yielded in
    let block = c.in-Some.block in
    let n = c.loop-block.number in
    let z : n ≡ 0 + length yielded = omega (arith, c.loop-block.invariant.number) in
    record {
      after = c.in_ok-push.ensures.items
          ∙ ap (λ (b : BasicBlock). c.loop-block.after.items ++ b ∷ []) c.in_ok-one_block.ensures.block
          ∙ ap (λ (bs : List BasicBlock). bs ++ block_written graph groups joins rows n c.loop-block.now block ∷ []) c.loop-block.invariant.after
          ∙ ap (λ (w : Writing). blocks_written graph groups joins rows 0 first yielded ++ block_written graph groups joins rows n w block ∷ []) c.loop-block.invariant.now
          ∙ ap (λ (m : ℕ). blocks_written graph groups joins rows 0 first yielded ++ block_written graph groups joins rows m (blocks_behind graph groups joins rows 0 first yielded) block ∷ []) z
          ∙ sym (blocks_push graph groups joins rows 0 first yielded block);
      now = c.in_ok-one_block.ensures.writing
          ∙ ap (λ (w : Writing). block_after graph groups joins rows n w block.insts) c.loop-block.invariant.now
          ∙ ap (λ (m : ℕ). block_after graph groups joins rows m (blocks_behind graph groups joins rows 0 first yielded) block.insts) z
          ∙ sym (blocks_behind_push graph groups joins rows 0 first yielded block);
      number = ap (λ (m : ℕ). m + 1) c.loop-block.invariant.number ∙ sym (length_push yielded block);
    }
