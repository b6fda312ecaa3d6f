use Rattle.std.proofs.Common.{◌∙◌, ◌∷◌, ap}
use Rattle.std.specs.Prelude.{map, filter_map, not}
use Rattle.list_laws.proofs.Options.{always_ok}
use Rattle.line_parts.specs.Seen.{seen_type, seen_passed}
use Rattle.ir_lines.specs.Parts.{passed_value, passed_function}
use Rattle.module_build.specs.declared.lost.Lost.{Lost}
use Rattle.module_build.specs.Lost.{tables_in, after_named, after_spelling, call_fits}
use Rattle.module_build.proofs.LostLemmas.{uses-more}
use Rattle.module_build.proofs.scope.Scope.call.Goals as goal

pub returns-clause-lost : goal.returns-clause-lost
returns-clause-lost c =
    let tables = tables_in c.args.self.now in
    let callee = c.args.callee.now in
    let passed = map seen_passed c.args.passed.now in
    always_ok c.called.result _
    (c.note_call.ensures
    ∙ ap
    (λ (lost : Lost). after_spelling (not (call_fits c.args.self.now.form tables (seen_type c.args.answer) callee passed))
    (after_named tables.heads (callee ∷ filter_map passed_function passed) lost))
    (uses-more tables.values c.args.lost.now _ _ (filter_map passed_value passed) _ _ c.kept_by.ensures c.in_ok-operands.ensures.lost c.in_ok-bundle.ensures.lost))
