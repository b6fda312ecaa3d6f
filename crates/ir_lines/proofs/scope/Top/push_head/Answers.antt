use Rattle.ir_lines.proofs.AgainLemmas.{again-notes}
use Rattle.ir_lines.proofs.scope.Top.push_head.Goals as goal

pub returns-clause-noted : goal.returns-clause-noted
returns-clause-noted c =
    again-notes c.args.self.now.heads c.args.head.name.now c.args.head.line c.in_ok-is_new.is_new c.args.first.now.found
    c.note_if.new.self.found c.in_ok-is_new.ensures.is_new c.note_if.ensures
