use Rattle.std.proofs.Common.{◌∙◌, ◌++◌, ap}
use Rattle.ir_lines.specs.Views.{seen_lines}
use Rattle.ir_lines.proofs.NoteLemmas.{notes-nothing}
use Rattle.text_resolve.proofs.RowNotes.{other-row, other-widths, always}
use Rattle.text_resolve.proofs.bodies.note_one.Goals as goal
use Rattle.list_laws.proofs.Options.{on_ok}

pub returns-in_default : goal.returns-in_default
returns-in_default c =
    let none = c.in_default.not-Switch in
    let behind = seen_lines c.args.behind.now in
    record {
      cases = on_ok c.push_none.result _ _ (λ e. e ∙ ap (λ rows. c.args.cases.now ++ rows) (other-row behind c.args.reading.now none)) c.push_none.ensures;
      noted = always c.push_none.result _ (notes-nothing c.args.first.now.found _ (other-widths behind c.args.reading.now none));
    }
