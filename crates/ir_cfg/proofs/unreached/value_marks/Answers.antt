use Rattle.std.proofs.Common.{◌≡◌, ◌<◌, ◌++◌, Bool, List, length, replicate, take, get_or, true, false, ap, sym, ◌∙◌, arith, append-nil, append_assoc}
use Rattle.ir_ast.specs.Blocks.{BasicBlock}
use Rattle.ir_cfg.specs.Unreached.{result_marks, result_count}
use Rattle.ir_cfg.proofs.KeptLemmas.{results_more}
use Rattle.ir_cfg.proofs.unreached.value_marks.Goals as goal

pub loop-place-init : goal.loop-place-init
loop-place-init c =
    let count : c.loop.counter ≡ c.args.arguments = omega arith in
    c.loop.invariant ∙ ap (λ n. replicate n true) count ∙ sym (append-nil (replicate c.args.arguments true))

pub loop-place-preserved : goal.loop-place-preserved
loop-place-preserved c =
    let below : c.loop-place.place < length c.args.blocks.now = omega arith in
    let front = replicate c.args.arguments true in
    let marks = result_marks c.args.marks.now (take c.loop-place.place c.args.blocks.now) in
    let block = c.index-blocks-place.result in
    let more = results_more c.args.marks.now c.args.blocks.now c.loop-place.place block below in
    let added = rw c.mark_at.ensures at c.in_ok-mark_results.ensures in
    added
    ∙ ap (λ (xs : List Bool). xs ++ replicate (result_count block) (get_or c.args.marks.now c.loop-place.place false)) c.loop-place.invariant
    ∙ append_assoc front marks (replicate (result_count block) (get_or c.args.marks.now c.loop-place.place false))
    ∙ ap (λ (b : BasicBlock). front ++ (marks ++ replicate (result_count b) (get_or c.args.marks.now c.loop-place.place false))) c.index-blocks-place.is
    ∙ ap (λ (xs : List Bool). front ++ xs) (sym more)
