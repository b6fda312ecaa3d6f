-- The plan that compacts, on the machine.
use Rattle.std.proofs.Common.{◌≡◌, ℕ, List, [], refl, sym, ap, subst, ◌∙◌}
use Rattle.std.proofs.Math.Path.{fun_ext}
use Rattle.ir_ast.specs.Layouts.{ObjectLayout}
use Rattle.ir_ast.specs.Modules.{ModuleContent}
use Rattle.move_plan.specs.Plans.{go}
use Rattle.object_meaning.specs.SourceRuns.{SourceGives}
use Rattle.object_meaning.specs.Traces.{Event}
use Rattle.object_meaning.specs.Outcomes.{sizes_in}
use Rattle.stackmap_write.specs.ModuleMaps.{map_of}
use Rattle.moves_unseen.specs.Waits.{IsSound}
use Rattle.rewritten_sound.specs.Definite.{rewritten_source}
use Rattle.sp_rewrite.specs.Statements.{IsRewritten}
use Rattle.sp_rewrite.proofs.RewrittenLaws.{rewriting_is_target, rewriting_is_verified, rewriting_keeps_meaning, source_is_rewritten}
use Rattle.runs_unseen.proofs.SeenRuns.{keeps_way, seen_there}
use Rattle.rewritten_runs.specs.PlacedRuns.{IsPlacedBy, events_of, stand_sizes}
use Rattle.rewritten_runs.proofs.event_places.RunLaws.{places_are_by_events}
use Rattle.rewritten_runs.proofs.shown_runs.SeenLaws.{same_sizes}
use Rattle.made_objects.specs.Makings.{makings}
use Rattle.compact_plan.proofs.LineLaws.{others_stay}
use Rattle.compacted_runs.specs.Statements.{MachinesCompact, compacting}

pub machines_compact : MachinesCompact
machines_compact content source input plan bound event outcome gives =
    let whole = source_is_rewritten content source in
    let reached = whole.1.reached in
    let drops = whole.1.drops in
    let now = compacting content plan event outcome in
    let same_go : go now ≡ go plan = fun_ext (others_stay plan (makings outcome.happened (sizes_in content.layouts outcome.objects)) event).go in
    let under : SourceGives content input (go now) bound outcome = subst (λ lines. SourceGives content input lines bound outcome) (sym same_go) gives in
    let after : ModuleContent = rewritten_source reached in
    let is : IsRewritten content after = record { reached = reached; drops = drops; rest = refl } in
    let sound : IsSound after = record { target = rewriting_is_target content after source is; verified = rewriting_is_verified content after source is } in
    let target = (rewriting_keeps_meaning content after source is input (go now) bound outcome).0 under in
    let run = seen_there after sound input now bound outcome target in
    let seen = run.1.1 in
    let placed = places_are_by_events after (map_of after) input now bound run.0 run.1.0 (keeps_way after sound input now bound run.0 run.1.0).1 in
    let sizes : stand_sizes run.0 ≡ sizes_in content.layouts outcome.objects =
    same_sizes after.layouts outcome.objects (run.0).heap.stands seen.objects.stands_count seen.objects.sizes
    ∙ ap (λ (layouts : List ObjectLayout). sizes_in layouts outcome.objects) drops.layouts in
    record {
      after = after;
      rewritten = is;
      machine = run.0;
      gives = run.1.0;
      placed = subst (λ (list : List Event). IsPlacedBy now list (sizes_in content.layouts outcome.objects) run.0) seen.happened
          (subst (λ (list : List ℕ). IsPlacedBy now (events_of run.0) list run.0) sizes placed);
    }
