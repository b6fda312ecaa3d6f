use Rattle.std.proofs.Common.{ℕ, List, [], subst}
use Rattle.std.specs.Prelude.{slice_get, unwrap_or}
use Rattle.ir_lines.specs.Notes.{Notes}
use Rattle.ir_lines.proofs.NoteLemmas.{notes-nothing}
use Rattle.ir_verify.specs.Bodies.{line_in, cases_in}
use Rattle.ir_verify.specs.FunctionFaults.{InstFault, LineFaultAt}
use Rattle.ir_verify.proofs.SoundLines.{no-fault}
use Rattle.ir_verify.proofs.verify.note_line.Goals as goal
use Rattle.list_laws.proofs.Options.{on_ok}

pub returns-then-is_sound : goal.returns-then-is_sound
returns-then-is_sound c =
    let content = c.args.module.now.content in
    let func = c.args.func.now in
    let rows = unwrap_or (slice_get c.args.cases.now c.args.number) [] in
    let place = c.args.place in
    let is = c.if-is_sound.true in
    notes-nothing c.args.first.now.found (LineFaultAt content func rows place c.args.inst.now)
    (no-fault content func.content (line_in func place) (cases_in rows place) c.args.inst.now (c.is_sound.ensures.inside is)
    (c.is_sound.ensures.unordered is) (c.is_sound.ensures.typed is))

pub returns : goal.returns
returns c =
    let content = c.args.module.now.content in
    let func = c.args.func.now in
    let rows = unwrap_or (slice_get c.args.cases.now c.args.number) [] in
    let place = c.args.place in
    let inst = c.args.inst.now in
    let f = c.args.first.now.found in
    let g = c.note_inst.new.first.found in
    on_ok c.note_inst.result _ _
    (λ noted.
    subst (λ (n : ℕ). Notes f g (InstFault content func.content n (cases_in rows place) inst)) c.line_of-line.ensures
    (subst (λ (ns : List ℕ). Notes f g (InstFault content func.content c.line_of-line.result ns inst)) c.cases_at-rows.ensures noted))
    c.note_inst.ensures
