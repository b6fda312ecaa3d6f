use Rattle.std.proofs.Common.{take}
use Rattle.std.specs.List.{list_any}
use Rattle.print_tables.specs.Called.{external_at, Marks}
use Rattle.print_tables.specs.Externals.{is_call_of}
use Rattle.print_tables.proofs.called.mark_funcs.Given as goal

abbrev pub invariant-loop-func : goal.invariant-loop-func
invariant-loop-func l =
    Marks (λ place. list_any (λ func. list_any (λ block. list_any (λ inst. is_call_of (external_at place) inst.op inst.ty) block.insts) func.content.blocks) (take l.func-index l.funcs)) l.initial.called l.called
