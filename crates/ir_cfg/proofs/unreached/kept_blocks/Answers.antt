use Rattle.std.proofs.Common.{◌++◌, ◌∷◌, [], false, if◌then◌else◌, List, get_or, ap, sym, ◌∙◌, arith}
use Rattle.std.proofs.lemmas.List.{length-append}
use Rattle.ir_ast.specs.Blocks.{BasicBlock}
use Rattle.ir_cfg.specs.Unreached.{block_kept}
use Rattle.ir_cfg.proofs.KeptLemmas.{kept_end}
use Rattle.ir_cfg.proofs.unreached.kept_blocks.Goals as goal

pub loop-block-preserved : goal.loop-block-preserved
loop-block-preserved c = record {
  place = omega (arith, c.loop-block.invariant.place, length-append c.loop-block.yielded (c.in-Some.block ∷ []));
  kept = c.in_ok-keep_if_marked.ensures
      ∙ ap (λ (ks : List BasicBlock). ks ++ (if get_or c.args.renumber.now.marks c.loop-block.place false then block_kept c.args.renumber.now c.in-Some.block ∷ [] else [])) c.loop-block.invariant.kept
      ∙ sym (kept_end (block_kept c.args.renumber.now) c.args.renumber.now.marks c.loop-block.yielded c.in-Some.block c.loop-block.place c.loop-block.invariant.place);
}
