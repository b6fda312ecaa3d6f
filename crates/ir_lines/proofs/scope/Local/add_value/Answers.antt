use Rattle.ir_lines.proofs.AgainLemmas.{bad-notes}
use Rattle.ir_lines.proofs.scope.Local.add_value.Goals as goal

pub returns-clause-noted : goal.returns-clause-noted
returns-clause-noted c =
    bad-notes c.args.form c.args.self.now.values c.args.name.now c.args.line c.in_ok-is_new.is_new c.args.first.now.found
    c.note_name.new.first.found c.in_ok-is_new.ensures.is_new c.note_name.ensures
