use Rattle.std.proofs.Common.{◌≡◌, ◌≤◌, ◌+◌, ◌*◌, drop, count_by}
use Rattle.std.specs.List.{sum_by}
use Rattle.ir_ast.specs.Funcs.{instructions_of}
use Rattle.gen_report.specs.Counts.{is_counted}
use Rattle.gen_report.proofs.counts.count.Given as goal

abbrev pub invariant-loop-func : goal.invariant-loop-func
invariant-loop-func l =
    (l.found + sum_by (λ func. count_by (λ inst. is_counted l.counted inst.op) (instructions_of func.blocks)) (drop l.func-index l.«module».content.funcs)
    ≡ sum_by (λ func. count_by (λ inst. is_counted l.counted inst.op) (instructions_of func.blocks)) l.«module».content.funcs)
    × (l.found ≤ l.func-index * 1073741824)
