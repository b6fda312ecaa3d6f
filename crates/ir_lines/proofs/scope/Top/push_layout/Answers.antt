use Rattle.ir_lines.proofs.AgainLemmas.{again-notes}
use Rattle.ir_lines.proofs.scope.Top.push_layout.Goals as goal

pub returns-clause-noted : goal.returns-clause-noted
returns-clause-noted c =
    again-notes c.args.self.now.layouts c.args.name.now c.args.line c.in_ok-is_new.is_new c.args.first.now.found
    c.note_if.new.self.found c.in_ok-is_new.ensures.is_new c.note_if.ensures
