use Rattle.std.proofs.Common.{◌≡◌, ◌∙◌, ◌+◌, ◌≤◌, ◌++◌, length, List, ap, sym, subst, arith}
use Rattle.std.proofs.lemmas.List.{length-map, drop-map}
use Rattle.ir_reader.specs.declared.raw.NumberedReading.{NumberedReading}
use Rattle.ir_lines.specs.Notes.{Notes}
use Rattle.ir_lines.specs.Statements.{Line}
use Rattle.ir_lines.specs.Views.{said, seen_line, seen_lines}
use Rattle.module_build.proofs.Founds.{notes-turn, notes-all}
use Rattle.text_resolve.specs.Lost.{WidthsAt, WidthsBehind}
use Rattle.text_resolve.specs.Rows.{row_said, rows_of}
use Rattle.text_resolve.proofs.RowNotes.{rows-more, rows-end}
use Rattle.text_resolve.proofs.bodies.note_body.Goals as goal
use Rattle.list_laws.proofs.Places.{seen_at}

pub loop-i-preserved : goal.loop-i-preserved
loop-i-preserved c =
    let here = seen_line c.index-body-i.result in
    record {
      made = rows-more c.args.body.now c.loop-i.i c.index-body-i.result c.loop-i.cases c.note_one.new.cases (rows_of (seen_lines c.args.body.now))
          c.loop-i-test.true c.index-body-i.is
          (c.in_ok-note_one.ensures.cases
          ∙ ap (λ (ys : List NumberedReading). c.loop-i.cases ++ row_said (seen_lines ys) (said c.index-body-i.result.reading)) c.behind.ensures)
          c.loop-i.invariant.made;
      noted = notes-turn WidthsAt (seen_lines c.args.body.now) c.loop-i.i here
          c.args.first.now.found c.loop-i.first.found c.note_one.new.first.found
          (seen_at seen_line c.args.body.now c.loop-i.i c.index-body-i.result c.loop-i-test.true c.index-body-i.is)
          c.loop-i.invariant.noted
          (subst (λ (after : List Line). Notes c.loop-i.first.found c.note_one.new.first.found (WidthsBehind here.says after))
          (ap seen_lines c.behind.ensures ∙ sym (drop-map seen_line (c.loop-i.i + 1) c.args.body.now)) c.in_ok-note_one.ensures.noted);
    }

pub returns : goal.returns
returns c =
    let end : c.loop-i.i ≡ length c.args.body.now = omega arith in
    let past : length c.args.body.now ≤ c.loop-i.i = omega (arith, end) in
    record {
      cases = rows-end c.args.body.now c.loop-i.i c.loop-i.cases (rows_of (seen_lines c.args.body.now)) past c.loop-i.invariant.made;
      noted = notes-all WidthsAt (seen_lines c.args.body.now) c.loop-i.i c.args.first.now.found c.loop-i.first.found
          (end ∙ sym (length-map c.args.body.now seen_line)) c.loop-i.invariant.noted;
    }
