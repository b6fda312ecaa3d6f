use Rattle.std.proofs.Common.{◌==◌, false, sym}
use Rattle.std.specs.Option.{option_map_or}
use Rattle.print_tables.specs.Externals.{is_call_of}
use Rattle.print_tables.specs.Called.{external_at}
use Rattle.print_tables.proofs.MarkLemmas.{Marks-then, Marks-same, or-same}
use Rattle.print_tables.proofs.PlaceLemmas.{at-statepoints, at-relocates}
use Rattle.print_tables.proofs.called.mark_line.Goals as goal

pub returns-in-Statepoint : goal.returns-in-Statepoint
returns-in-Statepoint c =
    Marks-then (λ place. place == 6) (λ place. option_map_or (λ named. place == named) c.place_of_callee-in-Statepoint.result false)
    (λ place. is_call_of (external_at place) c.args.inst.now.op c.args.inst.now.ty) _ _ _ c.mark-in-Statepoint.ensures c.mark-in-Statepoint-2.ensures
    (λ place. rw (← c.op.ensures, c.in-Statepoint.is) (or-same (sym (at-statepoints place)) (sym (c.place_of_callee-in-Statepoint.ensures place))))

pub returns-in-GcRelocate : goal.returns-in-GcRelocate
returns-in-GcRelocate c =
    Marks-same (λ place. place == 7) (λ place. is_call_of (external_at place) c.args.inst.now.op c.args.inst.now.ty) _ _ c.mark-in-GcRelocate.ensures
    (λ place. rw (← c.op.ensures, c.in-GcRelocate.is) (sym (at-relocates place)))
