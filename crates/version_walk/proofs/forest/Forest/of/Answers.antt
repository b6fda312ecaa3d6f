use Rattle.std.proofs.Common.{◌∙◌, ℕ, sym, ap, take, List, Option, Some, None, get_or, subst, arith}
use Rattle.std.proofs.lemmas.List.{take_all, take_more, length-take-le}
use Rattle.std.proofs.lemmas.Option.{slice_get-get_or}
use Rattle.version_walk.specs.Forest.{IsForest, Adds}
use Rattle.version_walk.proofs.ForestLemmas.{forest_none, forest_more, adds_whole}
use Rattle.version_walk.proofs.forest.Forest.of.Goals as goal

pub loop-block-init : goal.loop-block-init
loop-block-init c = record {
  whole = c.in_ok-empty_lists.ensures.whole;
  forest = forest_none _ c.new.ensures.items c.in_ok-empty_lists.ensures.empty;
}

pub add-requires : goal.add-requires
add-requires c place is =
    let stands = slice_get-get_or c.args.parents.now c.loop-block.block None c.loop-block-test.true in
    let inside = c.requires c.loop-block.block place (stands ∙ ap Some is) in
    omega (arith, inside, c.loop-block.invariant.whole)

pub loop-block-preserved : goal.loop-block-preserved
loop-block-preserved c =
    let parents = c.args.parents.now in
    let block = c.loop-block.block in
    let parent = get_or parents block None in
    let size = length-take-le block parents (omega (arith, c.loop-block-test.true)) in
    record {
      whole = adds_whole block parent c.loop-block.forest c.add.new.self c.in_ok-add.ensures ∙ c.loop-block.invariant.whole;
      forest = subst (λ (ps : List (Option ℕ)). IsForest ps c.add.new.self) (sym (take_more parents block None c.loop-block-test.true))
          (forest_more (take block parents) parent c.loop-block.forest c.add.new.self c.loop-block.invariant.forest
          (subst (λ (n : ℕ). Adds n parent c.loop-block.forest c.add.new.self) (sym size) c.in_ok-add.ensures));
    }

pub returns : goal.returns
returns c = record {
  whole = c.loop-block.invariant.whole;
  forest = subst (λ (ps : List (Option ℕ)). IsForest ps c.loop-block.forest) (take_all c.loop-block.block c.args.parents.now c.loop-block-test.false) c.loop-block.invariant.forest;
}
