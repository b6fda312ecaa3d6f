use Rattle.module_build.proofs.LostNotes.{notes-lost}
use Rattle.module_build.proofs.lines.note_tests.Goals as goal

pub returns : goal.returns
returns c =
    notes-lost c.args.tests.unknown c.args.tests.misspelled c.args.tests.cast c.args.tests.miscounted c.args.line
    c.args.first.now.found c.note_if.new.self.found c.note_if-2.new.self.found c.note_if-3.new.self.found c.note_if-4.new.self.found
    c.note_if.ensures c.note_if-2.ensures c.note_if-3.ensures c.note_if-4.ensures
