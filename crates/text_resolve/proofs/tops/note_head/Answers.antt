use Rattle.std.specs.Prelude.{◌≡◌, false}
use Rattle.std.specs.Option.{option_copied}
use Rattle.ir_ast.specs.Faults.Reserved.{IsExternalName}
use Rattle.ir_lines.specs.Faults.NoStrategy.{is_strategy}
use Rattle.ir_lines.proofs.NoteLemmas.{not-is, two-noted}
use Rattle.std.specs.Prelude.{not}
use Rattle.text_resolve.proofs.tops.note_head.Goals as goal

pub returns : goal.returns
returns c =
    two-noted c.args.line 10 14 (not c.is_strategy.result) c.is_external_name.result
    (is_strategy (option_copied c.args.strategy) ≡ false) (IsExternalName c.args.name.now)
    c.args.first.now.found c.note_if.new.self.found c.note_if-2.new.self.found
    (not-is c.is_strategy.result (is_strategy (option_copied c.args.strategy)) c.is_strategy.ensures) c.is_external_name.ensures
    c.note_if.ensures c.note_if-2.ensures
