use Rattle.ir_lines.proofs.AgainLemmas.{name-notes}
use Rattle.ir_lines.proofs.scope.note_name.Goals as goal

pub returns : goal.returns
returns c =
    name-notes c.args.form c.args.line c.args.name.now c.args.is_new c.is_reserved.result c.args.first.now.found c.note_if.new.self.found
    c.note_if-2.new.self.found c.is_reserved.ensures c.note_if.ensures c.note_if-2.ensures
