use Rattle.std.proofs.Common.{◌∙◌, List, ◌∷◌, ◌++◌, ap}
use Rattle.std.specs.Prelude.{map, filter_map, not}
use Rattle.list_laws.proofs.Options.{always_ok}
use Rattle.line_parts.specs.declared.readings.Passed.{Passed}
use Rattle.line_parts.specs.Seen.{seen_passed, seen_value}
use Rattle.line_forms.specs.declared.kept.KeptEntry.{KeptEntry}
use Rattle.line_forms.specs.Seen.{seen_kept}
use Rattle.ir_lines.specs.Parts.{live_use, passed_value, passed_function}
use Rattle.ir_lines.specs.Views.{seen_guarded}
use Rattle.module_build.specs.declared.lost.Lost.{Lost}
use Rattle.module_build.specs.Lost.{tables_in, after_uses, after_named, after_spelling, statepoint_fits}
use Rattle.module_build.proofs.LostLemmas.{uses-more}
use Rattle.module_build.proofs.scope.Scope.statepoint.Goals as goal

pub returns-clause-lost : goal.returns-clause-lost
returns-clause-lost c =
    let tables = tables_in c.args.self.now in
    let made = seen_guarded c.args.call.now in
    let live = map live_use (map seen_value c.args.live.now) in
    always_ok c.guarded.result _
    (c.note_statepoint.ensures
    ∙ ap
    (λ (lost : Lost). after_spelling (not (statepoint_fits c.args.self.now.form tables made))
    (after_named tables.heads (made.callee ∷ filter_map passed_function made.passed) lost))
    (uses-more tables.values c.args.lost.now _ _ (filter_map passed_value made.passed ++ live) _ _ (ap (λ (kept : List KeptEntry). map seen_kept kept) c.as_slice-2.ensures)
    (c.in_ok-operands.ensures.lost
    ∙ ap (λ (passed : List Passed). after_uses tables.values c.args.lost.now (filter_map passed_value (map seen_passed passed) ++ live)) c.as_slice.ensures)
    c.in_ok-bundle.ensures.lost))
