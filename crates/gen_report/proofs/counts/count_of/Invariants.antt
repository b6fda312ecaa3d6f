use Rattle.std.proofs.Common.{◌≡◌, ◌≤◌, ◌+◌, drop, count_by}
use Rattle.gen_report.specs.Counts.{is_counted}
use Rattle.gen_report.proofs.counts.count_of.Given as goal

abbrev pub invariant-loop-inst : goal.invariant-loop-inst
invariant-loop-inst l =
    (l.found + count_by (λ inst. is_counted l.counted inst.op) (drop l.inst-index l.insts) ≡ count_by (λ inst. is_counted l.counted inst.op) l.insts)
    × (l.found ≤ l.inst-index)
