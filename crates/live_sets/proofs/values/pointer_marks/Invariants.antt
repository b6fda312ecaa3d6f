use Rattle.std.proofs.Common.{◌≡◌, ◌++◌, map, filter, take}
use Rattle.std.specs.Prelude.{is_some}
use Rattle.ir_ast.specs.Funcs.{instructions_of}
use Rattle.ir_ast.specs.Types.{is_pointer}
use Rattle.live_sets.specs.Values.{result_is_pointer}
use Rattle.live_sets.proofs.values.pointer_marks.Given as goal

abbrev pub invariant-loop-arg : goal.invariant-loop-arg
invariant-loop-arg l = l.marks.items ≡ map (λ arg. is_pointer arg.ty) (take l.arg-index l.arg-items)

abbrev pub invariant-loop-block : goal.invariant-loop-block
invariant-loop-block l = l.marks.items ≡ map (λ arg. is_pointer arg.ty) l.func.content.args
    ++ map result_is_pointer (filter (λ inst. is_some inst.result) (instructions_of (take l.block-index l.block-items)))
