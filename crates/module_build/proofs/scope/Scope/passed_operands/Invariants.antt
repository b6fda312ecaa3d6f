use Rattle.std.proofs.Common.{◌≡◌, ◌++◌, drop}
use Rattle.std.specs.Prelude.{map, filter_map}
use Rattle.line_parts.specs.Seen.{seen_passed}
use Rattle.ir_lines.specs.Modules.{passed_operand}
use Rattle.ir_lines.specs.Parts.{passed_value}
use Rattle.module_build.specs.Known.{known_in}
use Rattle.module_build.specs.Lost.{after_uses}
use Rattle.module_build.proofs.scope.Scope.passed_operands.Given as goal

abbrev pub invariant-loop-one : goal.invariant-loop-one
invariant-loop-one l = record {
  made : l.operands.items ++ map (passed_operand (known_in l.self)) (map seen_passed (drop l.one-index l.passed))
      ≡ map (passed_operand (known_in l.self)) (map seen_passed l.passed);
  lost : after_uses l.self.local.now.values l.lost (filter_map passed_value (map seen_passed (drop l.one-index l.passed)))
      ≡ after_uses l.self.local.now.values l.initial.lost (filter_map passed_value (map seen_passed l.passed));
}
