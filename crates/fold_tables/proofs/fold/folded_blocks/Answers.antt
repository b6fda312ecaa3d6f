use Rattle.std.proofs.Common.{◌∙◌, ◌++◌, ◌∷◌, [], ℕ, List, length, ap, sym, arith}
use Rattle.std.proofs.lemmas.Iterator.Adapters.{YieldsList-from_vec}
use Rattle.std.proofs.lemmas.Iterator.Consumers.{YieldsList-so_far, YieldsList-turn}
use Rattle.std.proofs.lemmas.List.{length-append}
use Rattle.ir_ast.specs.Blocks.{BasicBlock}
use Rattle.ir_ast.specs.Funcs.{instructions_of}
use Rattle.object_meaning.specs.Lines.{after_all}
use Rattle.folded_forms.specs.Folded.{folded_blocks}
use Rattle.fold_tables.proofs.FoldLaws.{folded_block, blocks-push}
use Rattle.fold_tables.proofs.fold.folded_blocks.Goals as goal
use Rattle.object_meaning.proofs.LineLaws.{after_few, after_append}
use Rattle.object_meaning.proofs.BlockLaws.{within_blocks, instructions-push}

pub folded_block-requires-clause-few : goal.folded_block-requires-clause-few
folded_block-requires-clause-few c =
    let far = YieldsList-so_far (YieldsList-from_vec c.args.blocks.items (cc) (cc)) c.loop-block.yielded c.loop-block.block-iterator c.loop-block.yielded_by in
    let turn = YieldsList-turn (YieldsList-from_vec c.args.blocks.items (cc) (cc)) c.loop-block.yielded c.loop-block.block-iterator c.loop-block.yielded_by c.next.result c.next.new.self c.in-Some.block c.in-Some.is c.next.ensures.steps in
    let within = within_blocks c.args.blocks.items c.loop-block.yielded c.in-Some.block far turn in
    omega (arith, within, c.loop-block.invariant.few, c.requires.few)

pub loop-block-preserved : goal.loop-block-preserved
loop-block-preserved c =
    let block = c.in-Some.block in
    let start = c.args.start in
    let table = c.args.table.now in
    let yielded = c.loop-block.yielded in
    let behind = c.in_ok-less.ensures.behind in
    record {
      next = behind ∙ ap (λ (n : ℕ). after_all n block.insts) c.loop-block.invariant.next
          ∙ sym (ap (after_all start) (instructions-push yielded block) ∙ after_append start (instructions_of yielded) block.insts);
      few = omega (
        arith,
        behind,
        after_few c.loop-block.next block.insts,
        c.loop-block.invariant.few,
        ap length (instructions-push yielded block),
        length-append (instructions_of yielded) block.insts,
      );
      after = c.in_ok-push.ensures.items
          ∙ ap (λ (b : BasicBlock). c.loop-block.after.items ++ b ∷ []) c.in_ok-less.ensures.block
          ∙ ap (λ (bs : List BasicBlock). bs ++ folded_block table c.loop-block.next block ∷ []) c.loop-block.invariant.after
          ∙ ap (λ (n : ℕ). folded_blocks table start yielded ++ folded_block table n block ∷ []) c.loop-block.invariant.next
          ∙ sym (blocks-push table start yielded block);
    }
