use Rattle.std.proofs.Common.{◌+◌, ap, ◌∙◌, drop}
use Rattle.compact_plan.specs.Compacting.{front_lines, is_front}
use Rattle.compact_plan.proofs.PackLemmas.{filter_next, kept_on, left_out}
use Rattle.compact_plan.proofs.planner.front.Goals as goal
use Rattle.compact_plan.proofs.planner.front.Goals.{then-is_front+in_ok-push, else-is_front}

pub loop-index-preserved : goal.loop-index-preserved
loop-index-preserved c =
    let event = c.args.event in
    let plan = c.args.plan.now in
    let line = c.line-line.result in
    let rest = front_lines (drop (c.loop-index.index + 1) plan) event in
    let more = front_lines (drop c.loop-index.index plan) event in
    let next = filter_next (is_front event) plan c.loop-index.index line c.line-line.ensures in
    elim c.if-is_front.branch [
      | then-is_front+in_ok-push w ↦
          kept_on c.loop-index.lines.items c.if-is_front.lines.items rest more (front_lines plan event) line (is_front event line)
          next w.if-is_front.ensures (ap (λ v. v.items) w.lines-is ∙ w.in_ok-push.ensures.items) c.loop-index.invariant
      | else-is_front w ↦
          left_out c.loop-index.lines.items c.if-is_front.lines.items rest more (front_lines plan event) line (is_front event line)
          next w.if-is_front.ensures (ap (λ v. v.items) w.lines-is) c.loop-index.invariant
    ]
