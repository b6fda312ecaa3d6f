use Rattle.std.proofs.Common.{◌∷◌, ◌++◌, [], List, ap, sym, ◌∙◌, arith}
use Rattle.std.proofs.lemmas.List.{length-append}
use Rattle.ir_ast.specs.Blocks.{BasicBlock}
use Rattle.base_forms.specs.Polls.{placed_block}
use Rattle.poll_place.proofs.PlacedLemmas.{placed_more}
use Rattle.poll_place.proofs.polls.place_blocks.Goals as goal

pub loop-block-preserved : goal.loop-block-preserved
loop-block-preserved c = record {
  number = omega (arith, c.loop-block.invariant.number, length-append c.loop-block.yielded (c.in-Some.block ∷ []));
  placed = c.in_ok-push.ensures.items
      ∙ ap (λ (after : BasicBlock). c.loop-block.after.items ++ after ∷ []) c.in_ok-place_block.ensures
      ∙ ap (λ (after : List BasicBlock). after ++ placed_block c.loop-block.number c.in-Some.block ∷ []) c.loop-block.invariant.placed
      ∙ sym (placed_more c.loop-block.yielded c.in-Some.block c.loop-block.number c.loop-block.invariant.number);
}
