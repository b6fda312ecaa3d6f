use Rattle.std.proofs.Common.{take}
use Rattle.std.specs.List.{list_any}
use Rattle.print_tables.specs.Called.{external_at, Marks}
use Rattle.print_tables.specs.Externals.{is_call_of}
use Rattle.print_tables.proofs.called.mark_func.Given as goal

abbrev pub invariant-loop-block : goal.invariant-loop-block
invariant-loop-block l =
    Marks (λ place. list_any (λ block. list_any (λ inst. is_call_of (external_at place) inst.op inst.ty) block.insts) (take l.block-index l.block-items)) l.initial.called l.called
