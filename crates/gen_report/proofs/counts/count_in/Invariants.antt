use Rattle.std.proofs.Common.{◌≡◌, ◌+◌, drop, count_by}
use Rattle.ir_ast.specs.Funcs.{instructions_of}
use Rattle.gen_report.specs.Counts.{is_counted}
use Rattle.gen_report.proofs.counts.count_in.Given as goal

abbrev pub invariant-loop-block : goal.invariant-loop-block
invariant-loop-block l =
    l.found + count_by (λ inst. is_counted l.counted inst.op) (instructions_of (drop l.block-index l.blocks))
    ≡ count_by (λ inst. is_counted l.counted inst.op) (instructions_of l.blocks)
