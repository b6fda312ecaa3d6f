use Rattle.std.proofs.Common.{◌∙◌, ◌≤◌, List, length, refl, ap, sym, arith}
use Rattle.std.specs.Prelude.{map, filter_map}
use Rattle.line_parts.specs.declared.readings.Value.{Value}
use Rattle.line_parts.specs.Seen.{seen_passed, seen_value}
use Rattle.ir_lines.specs.Parts.{live_use, passed_value}
use Rattle.module_build.specs.declared.lost.Lost.{Lost}
use Rattle.module_build.specs.Lost.{after_uses}
use Rattle.module_build.proofs.LostLemmas.{uses-append, all-done}
use Rattle.module_build.proofs.scope.Scope.statepoint_operands.Goals as goal

pub returns-clause-lost : goal.returns-clause-lost
returns-clause-lost c =
    let names = c.args.self.now.local.now.values in
    let live = map live_use (map seen_value c.args.live.now) in
    let past : length c.args.live.now ≤ c.loop-entry.entry-index = omega arith in
    all-done (λ (lost : Lost) (vs : List Value). after_uses names lost (map live_use (map seen_value vs))) c.args.live.now c.loop-entry.entry-index
    c.loop-entry.lost (after_uses names c.passed_operands.new.lost live) past refl c.loop-entry.invariant.lost
    ∙ ap (λ (lost : Lost). after_uses names lost live) c.in_ok-operands.ensures.lost
    ∙ sym (uses-append names c.args.lost.now (filter_map passed_value (map seen_passed c.args.passed.now)) live)
