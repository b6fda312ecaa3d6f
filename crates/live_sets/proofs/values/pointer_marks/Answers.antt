use Rattle.std.proofs.Common.{◌≡◌, ◌∙◌, ap, ◌++◌, map, filter, take, List}
use Rattle.std.specs.Prelude.{is_some}
use Rattle.std.proofs.lemmas.List.{take_all}
use Rattle.ir_ast.specs.Insts.{Instruction}
use Rattle.ir_ast.specs.Blocks.{BasicBlock}
use Rattle.ir_ast.specs.declared.funcs.Arg.{Arg}
use Rattle.ir_ast.specs.Funcs.{instructions_of}
use Rattle.ir_ast.specs.Types.{is_pointer}
use Rattle.live_sets.specs.Values.{result_is_pointer}
use Rattle.live_sets.proofs.ValueLemmas.{marks_whole}
use Rattle.live_sets.proofs.values.pointer_marks.Goals as goal

pub returns : goal.returns
returns c =
    let func = c.args.func.now.content in
    let all : take c.loop-block.block-index c.blocks-block-items.result.now ≡ c.blocks-block-items.result.now = take_all c.loop-block.block-index c.blocks-block-items.result.now c.loop-block-test.false in
    c.loop-block.invariant
    ∙ ap (λ (blocks : List BasicBlock). map (λ (arg : Arg). is_pointer arg.ty) func.args ++ map result_is_pointer (filter (λ (inst : Instruction). is_some inst.result) (instructions_of blocks)))
    (all ∙ c.blocks-block-items.ensures.value)
    ∙ marks_whole func
