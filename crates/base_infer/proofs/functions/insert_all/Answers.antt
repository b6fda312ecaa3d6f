use Rattle.std.proofs.Common.{◌∙◌, ◌++◌, ◌∷◌, [], ℕ, List, length, ap, sym, arith}
use Rattle.std.proofs.lemmas.Iterator.Adapters.{YieldsList-from_vec}
use Rattle.std.proofs.lemmas.Iterator.Consumers.{YieldsList-so_far, YieldsList-turn}
use Rattle.std.proofs.lemmas.List.{length-append}
use Rattle.ir_ast.specs.Blocks.{BasicBlock}
use Rattle.ir_ast.specs.Funcs.{instructions_of}
use Rattle.object_meaning.specs.Lines.{after_all}
use Rattle.base_forms.specs.Lines.{based_blocks}
use Rattle.base_tables.specs.Tables.{tabled}
use Rattle.base_infer.proofs.LineLemmas.{based_block, blocks-push}
use Rattle.base_infer.proofs.functions.insert_all.Goals as goal
use Rattle.object_meaning.proofs.LineLaws.{after_few, after_append}
use Rattle.object_meaning.proofs.BlockLaws.{within_blocks, instructions-push}

pub insert_in-requires : goal.insert_in-requires
insert_in-requires c =
    let far = YieldsList-so_far (YieldsList-from_vec c.args.blocks.items (cc) (cc)) c.loop-block.yielded c.loop-block.block-iterator c.loop-block.yielded_by in
    let turn = YieldsList-turn (YieldsList-from_vec c.args.blocks.items (cc) (cc)) c.loop-block.yielded c.loop-block.block-iterator c.loop-block.yielded_by c.next.result c.next.new.self c.in-Some.block c.in-Some.is c.next.ensures.steps in
    let within = within_blocks c.args.blocks.items c.loop-block.yielded c.in-Some.block far turn in
    omega (arith, within, c.loop-block.invariant.few, c.requires)

pub loop-block-preserved : goal.loop-block-preserved
loop-block-preserved c =
    let block = c.in-Some.block in
    let start = c.args.start in
    let given = tabled c.args.tables.now in
    let yielded = c.loop-block.yielded in
    let behind = c.in_ok-with_bases.ensures.behind in
    record {
      next = behind ∙ ap (λ (n : ℕ). after_all n block.insts) c.loop-block.invariant.next
          ∙ sym (ap (after_all start) (instructions-push yielded block) ∙ after_append start (instructions_of yielded) block.insts);
      few = omega (
        arith,
        behind,
        after_few c.loop-block.next block.insts,
        c.loop-block.invariant.few,
        ap length (instructions-push yielded block),
        length-append (instructions_of yielded) block.insts,
      );
      after = c.in_ok-push.ensures.items
          ∙ ap (λ (b : BasicBlock). c.loop-block.after.items ++ b ∷ []) c.in_ok-with_bases.ensures.block
          ∙ ap (λ (bs : List BasicBlock). bs ++ based_block given c.loop-block.next block ∷ []) c.loop-block.invariant.after
          ∙ ap (λ (n : ℕ). based_blocks given start yielded ++ based_block given n block ∷ []) c.loop-block.invariant.next
          ∙ sym (blocks-push given start yielded block);
    }
