use Rattle.std.proofs.Common.{◌+◌, take, sym}
use Rattle.std.specs.List.{list_any}
use Rattle.std.proofs.lemmas.List.Folds.{list_any_more}
use Rattle.print_tables.specs.Externals.{is_call_of}
use Rattle.print_tables.specs.Called.{external_at}
use Rattle.print_tables.proofs.MarkLemmas.{Marks-then}
use Rattle.print_tables.proofs.called.mark_block.Goals as goal

pub loop-inst-preserved : goal.loop-inst-preserved
loop-inst-preserved c =
    let items = c.insts-inst-items.result.now in
    Marks-then (λ place. list_any (λ inst. is_call_of (external_at place) inst.op inst.ty) (take c.loop-inst.inst-index items))
    (λ place. is_call_of (external_at place) c.inst-item.result.op c.inst-item.result.ty)
    (λ place. list_any (λ inst. is_call_of (external_at place) inst.op inst.ty) (take (c.loop-inst.inst-index + 1) items))
    _ _ _ c.loop-inst.invariant c.mark_line.ensures
    (λ place. rw c.inst-item.is (sym (list_any_more (λ inst. is_call_of (external_at place) inst.op inst.ty) items c.loop-inst.inst-index c.inst-item.result c.loop-inst-test.true)))
