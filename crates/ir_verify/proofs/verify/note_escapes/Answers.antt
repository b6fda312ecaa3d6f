use Rattle.std.proofs.Common.{◌≡◌, ◌∙◌, List, Bool, length, sym, ap, arith}
use Rattle.std.specs.Prelude.{slice_get, Some}
use Rattle.std.specs.List.{list_any}
use Rattle.std.specs.Borrow.{Bor}
use Rattle.std.proofs.lemmas.List.{length-map}
use Rattle.ir_ast.specs.Insts.{Instruction}
use Rattle.ir_ast.specs.Faults.DerivedEscapes.{values_leaving}
use Rattle.ir_verify.specs.Bodies.{insts_of, line_in}
use Rattle.ir_verify.specs.FunctionFaults.{EscapeAt}
use Rattle.ir_verify.proofs.Escapes.{nothing-escapes}
use Rattle.ir_verify.proofs.Founds.{notes-step, notes-all, notes-at_line}
use Rattle.body_tables.proofs.UserLemmas.{escapes-iff}
use Rattle.ir_verify.proofs.verify.note_escapes.Goals as goal
use Rattle.list_laws.proofs.Places.{seen_at}
use Rattle.ir_ast.specs.Lists.{has_mark}

pub returns-then-not-has_step : goal.returns-then-not-has_step
returns-then-not-has_step c = nothing-escapes c.args.func.now c.args.first.now.found (sym c.requires.steps ∙ c.if-not-has_step.true)

pub loop-place-preserved : goal.loop-place-preserved
loop-place-preserved c =
    let func = c.args.func.now in
    let place = c.loop-place.place in
    let inst = c.index-insts-place.result.now in
    let marks = c.in_ok-marks.marks.items in
    let at : slice_get (insts_of func) place ≡ Some inst
    = ap (λ (xs : List Instruction). slice_get xs place) (sym c.requires.insts)
    ∙ seen_at (λ (one : Bor Instruction). one.now) c.args.insts.now place c.index-insts-place.result c.loop-place-test.true c.index-insts-place.is in
    let f = c.args.first.now.found in
    let g = c.loop-place.first.found in
    let h = c.note_if.new.self.found in
    notes-step (EscapeAt func) (insts_of func) place inst f g h at c.loop-place.invariant
    (notes-at_line c.line_of.result (line_in func place) 9 c.lets_out.result _ g h c.line_of.ensures
    (escapes-iff func.content marks inst c.lets_out.result c.in_ok-marks.ensures
    (c.lets_out.ensures ∙ ap (λ (ms : List Bool). list_any (has_mark ms) (values_leaving inst)) c.as_slice.ensures.value)) c.note_if.ensures)

pub returns : goal.returns
returns c =
    let func = c.args.func.now in
    let size : length (insts_of func) ≡ length c.args.insts.now = ap length (sym c.requires.insts) ∙ length-map c.args.insts.now (λ (one : Bor Instruction). one.now) in
    notes-all (EscapeAt func) (insts_of func) c.loop-place.place c.args.first.now.found c.loop-place.first.found (omega (arith, size)) c.loop-place.invariant
