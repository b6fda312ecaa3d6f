use Rattle.std.proofs.Common.{◌≡◌, ◌++◌, false, drop}
use Rattle.std.specs.Prelude.{map}
use Rattle.line_parts.specs.Seen.{seen_type, seen_entry}
use Rattle.ir_lines.specs.Modules.{entry_operand, entry_label}
use Rattle.ir_lines.specs.Parts.{entry_use}
use Rattle.module_build.specs.Lost.{after_uses, after_names}
use Rattle.module_build.proofs.build.phi.Given as goal

abbrev pub invariant-loop-entry : goal.invariant-loop-entry
invariant-loop-entry l = record {
  made : l.operands.items ++ map (entry_operand l.local.values (seen_type l.ty)) (map seen_entry (drop l.entry-index l.entries))
      ≡ map (entry_operand l.local.values (seen_type l.ty)) (map seen_entry l.entries);
  labelled : l.labels.items ++ map (entry_label l.local.blocks) (map seen_entry (drop l.entry-index l.entries))
      ≡ map (entry_label l.local.blocks) (map seen_entry l.entries);
  lost : after_uses l.local.values l.lost (map (entry_use (seen_type l.ty)) (map seen_entry (drop l.entry-index l.entries)))
      ≡ after_uses l.local.values l.initial.lost (map (entry_use (seen_type l.ty)) (map seen_entry l.entries));
  unknown : after_names l.local.blocks l.lost_labels.unknown (map (λ entry. entry.1) (map seen_entry (drop l.entry-index l.entries)))
      ≡ after_names l.local.blocks false (map (λ entry. entry.1) (map seen_entry l.entries));
}
