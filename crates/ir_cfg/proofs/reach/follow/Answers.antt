use Rattle.std.proofs.Common.{◌≡◌, ◌<◌, true, length, Some, slice_get, arith, sym, ap, ◌∙◌, inl, inr}
use Rattle.std.proofs.lemmas.Bool.{true≢false}
use Rattle.std.proofs.lemmas.Option.{slice_get-get_or}
use Rattle.ir_ast.specs.Blocks.{BasicBlock}
use Rattle.graph_search.specs.Paths.{Marked}
use Rattle.ir_cfg.specs.Graphs.{graph_of}
use Rattle.ir_cfg.specs.Followed.{MarksMore}
use Rattle.ir_ast.specs.Edges.{targets}
use Rattle.ir_cfg.proofs.FollowLemmas.{none_marked, entry_reached, targets_reached, passed_more}
use Rattle.ir_cfg.proofs.reach.follow.Goals as goal

pub loop-place-init : goal.loop-place-init
loop-place-init c = record {
  whole = omega (arith, c.mark.ensures.whole, c.in_ok-marks.ensures.len);
  sound = λ block marked. elim (c.mark.ensures.each block marked) [
    | inl was ↦ absurd (true≢false (none_marked _ block (rw (c.in_ok-marks.ensures.items_if_clones_equal (λ y is. is)) at was)))
    | inr same ↦ entry_reached (graph_of c.args.func.now.content) block same
  ];
  passed = λ block below. absurd (omega (arith, below));
}

pub loop-place-preserved : goal.loop-place-preserved
loop-place-preserved c =
    let func = c.args.func.now.content in
    let place = c.loop-place.place in
    let block = c.index-blocks-place.result in
    let below : place < length c.blocks-blocks.result.now = omega arith in
    let there : slice_get c.blocks-blocks.result.now place ≡ Some block =
    slice_get-get_or c.blocks-blocks.result.now place block below ∙ ap (λ (b : BasicBlock). Some b) (sym c.index-blocks-place.is) in
    let stands : slice_get func.blocks place ≡ Some block = rw c.blocks-blocks.ensures.value at there in
    let inside : place < length c.loop-place.marks.items = omega (arith, below, c.loop-place.invariant.whole) in
    let is : c.index.result.now ≡ true = grind arith in
    let marked : Marked c.loop-place.marks.items place =
    slice_get-get_or c.loop-place.marks.items place c.index.result.now inside ∙ ap Some (sym c.index.ensures ∙ is) in
    let reached = c.loop-place.invariant.sound place marked in
    let more : MarksMore (targets block) c.loop-place.marks.items c.mark_all.new.marks.items = rw c.edges_of.ensures at c.mark_all.ensures in
    record {
      whole = more.whole ∙ c.loop-place.invariant.whole;
      sound = targets_reached func place block c.loop-place.marks.items c.mark_all.new.marks.items stands reached c.loop-place.invariant.sound more;
      passed = passed_more (graph_of func) place c.loop-place.invariant.passed reached;
    }
