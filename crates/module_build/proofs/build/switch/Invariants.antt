use Rattle.std.proofs.Common.{◌≡◌, ◌∷◌, ◌++◌, drop}
use Rattle.line_parts.specs.Seen.{seen_value}
use Rattle.line_parts.specs.Types.{Int}
use Rattle.ir_lines.specs.Views.{seen_lines}
use Rattle.ir_lines.specs.Modules.{operand_in, label_in, case_values, case_labels}
use Rattle.module_build.proofs.build.switch.Given as goal

abbrev pub invariant-loop-line : goal.invariant-loop-line
invariant-loop-line l = record {
  made : l.operands.items ++ case_values l.local.values l.fn.width.bits (seen_lines (drop l.line-index l.behind))
      ≡ operand_in l.local.values (Int l.fn.width.bits) (seen_value l.value) ∷ case_values l.local.values l.fn.width.bits (seen_lines l.behind);
  labelled : l.labels.items ++ case_labels l.local.blocks (seen_lines (drop l.line-index l.behind))
      ≡ label_in l.local.blocks l.default ∷ case_labels l.local.blocks (seen_lines l.behind);
}
