use Rattle.std.proofs.Common.{◌+◌, ap, ◌∙◌, drop}
use Rattle.compact_plan.specs.Compacting.{later_lines, is_later}
use Rattle.compact_plan.proofs.PackLemmas.{filter_next, kept_on, left_out}
use Rattle.compact_plan.proofs.planner.later.Goals as goal
use Rattle.compact_plan.proofs.planner.later.Goals.{then-is_later+in_ok-push, else-is_later}

pub loop-index-preserved : goal.loop-index-preserved
loop-index-preserved c =
    let event = c.args.event in
    let plan = c.args.plan.now in
    let line = c.line-line.result in
    let rest = later_lines (drop (c.loop-index.index + 1) plan) event in
    let more = later_lines (drop c.loop-index.index plan) event in
    let next = filter_next (is_later event) plan c.loop-index.index line c.line-line.ensures in
    elim c.if-is_later.branch [
      | then-is_later+in_ok-push w ↦
          kept_on c.loop-index.lines.items c.if-is_later.lines.items rest more (later_lines plan event) line (is_later event line)
          next w.if-is_later.ensures (ap (λ v. v.items) w.lines-is ∙ w.in_ok-push.ensures.items) c.loop-index.invariant
      | else-is_later w ↦
          left_out c.loop-index.lines.items c.if-is_later.lines.items rest more (later_lines plan event) line (is_later event line)
          next w.if-is_later.ensures (ap (λ v. v.items) w.lines-is) c.loop-index.invariant
    ]
