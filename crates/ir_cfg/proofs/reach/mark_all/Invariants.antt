use Rattle.ir_cfg.specs.Followed.{MarksMore}
use Rattle.ir_cfg.proofs.reach.mark_all.Given as goal

abbrev pub invariant-loop-label : goal.invariant-loop-label
invariant-loop-label l = MarksMore l.labels l.initial.marks.items l.marks.items
