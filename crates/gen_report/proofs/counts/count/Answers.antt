use Rattle.std.proofs.Common.{◌∙◌, List, ap, arith, count_by}
use Rattle.ir_ast.specs.Blocks.{BasicBlock}
use Rattle.ir_ast.specs.Funcs.{Function, instructions_of}
use Rattle.ir_ast.specs.Insts.{Instruction}
use Rattle.gen_report.specs.Counts.{is_counted}
use Rattle.gen_report.proofs.CountLaws.{count_step}
use Rattle.gen_report.proofs.counts.count.Goals as goal

pub loop-func-preserved : goal.loop-func-preserved
loop-func-preserved c =
    let known = c.loop-func.invariant in
    let counted = c.args.counted in
    let test = (λ (inst : Instruction). is_counted counted inst.op) in (
      count_step (λ (func : Function). count_by test (instructions_of func.blocks)) c.loop-func.found c.count_in-found.result _ c.funcs-func-items.result.now c.args.«module».now.content.funcs
          c.loop-func.func-index c.func-item.result c.funcs-func-items.ensures.content c.loop-func-test.true c.func-item.is
          (c.count_in-found.ensures.value ∙ ap (λ (blocks : List BasicBlock). count_by test (instructions_of blocks)) c.blocks-in-loop-func.ensures.value) known.0,
      omega (arith, known.1, c.count_in-found.ensures.bound),
    )
