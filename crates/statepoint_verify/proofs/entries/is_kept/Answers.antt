use Rattle.std.proofs.Common.{◌∙◌, ap, sym, ℕ, false, Option}
use Rattle.std.specs.Prelude.{nat_eq}
use Rattle.std.specs.List.{list_any, position}
use Rattle.std.specs.Option.{option_map_or}
use Rattle.ir_ast.specs.declared.ops.Operand.{Operand}
use Rattle.pair_facts.specs.Lines.{same_operand}
use Rattle.statepoint_verify.specs.Kept.{is_kept_by}
use Rattle.statepoint_verify.proofs.entries.is_kept.Goals as goal

pub returns-in-Value : goal.returns-in-Value
returns-in-Value c =
    let entries = c.args.entries.now in
    let keys = c.args.kept.now.values.keys in
    c.is_entry_kept.ensures
    ∙ ap (λ (found : Option ℕ). option_map_or (λ place. list_any (nat_eq place) keys) found false)
    (c.first_entry.ensures ∙ ap (λ (operand : Operand). position (λ entry. same_operand entry operand) entries) c.in-Value.is)
    ∙ sym (ap (is_kept_by entries keys) c.in-Value.is)
