use Rattle.std.proofs.Common.{take}
use Rattle.std.specs.List.{list_any}
use Rattle.print_tables.specs.Called.{external_at, Marks}
use Rattle.print_tables.specs.Externals.{is_call_of}
use Rattle.print_tables.proofs.called.mark_block.Given as goal

abbrev pub invariant-loop-inst : goal.invariant-loop-inst
invariant-loop-inst l = Marks (λ place. list_any (λ inst. is_call_of (external_at place) inst.op inst.ty) (take l.inst-index l.inst-items)) l.initial.called l.called
