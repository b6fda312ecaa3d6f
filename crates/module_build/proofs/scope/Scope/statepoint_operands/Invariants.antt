use Rattle.std.proofs.Common.{◌≡◌, ◌++◌, drop}
use Rattle.std.specs.Prelude.{map}
use Rattle.line_parts.specs.Seen.{seen_passed, seen_value}
use Rattle.ir_lines.specs.Parts.{live_use}
use Rattle.ir_lines.specs.Modules.{passed_operand, used_operand}
use Rattle.module_build.specs.Known.{known_in}
use Rattle.module_build.specs.Lost.{after_uses}
use Rattle.module_build.proofs.scope.Scope.statepoint_operands.Given as goal

abbrev pub invariant-loop-entry : goal.invariant-loop-entry
invariant-loop-entry l = record {
  made : l.operands.items ++ map (used_operand (known_in l.self)) (map live_use (map seen_value (drop l.entry-index l.live)))
      ≡ map (passed_operand (known_in l.self)) (map seen_passed l.passed) ++ map (used_operand (known_in l.self)) (map live_use (map seen_value l.live));
  lost : after_uses l.self.local.now.values l.lost (map live_use (map seen_value (drop l.entry-index l.live)))
      ≡ after_uses l.self.local.now.values l.initial.lost (map live_use (map seen_value l.live));
}
