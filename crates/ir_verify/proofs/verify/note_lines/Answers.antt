use Rattle.std.proofs.Common.{◌≡◌, ◌∙◌, List, [], length, sym, ap, arith}
use Rattle.std.specs.Prelude.{slice_get, Some, unwrap_or}
use Rattle.std.specs.Borrow.{Bor}
use Rattle.std.proofs.lemmas.List.{length-map}
use Rattle.ir_ast.specs.Insts.{Instruction}
use Rattle.ir_verify.specs.Bodies.{insts_of}
use Rattle.ir_verify.specs.FunctionFaults.{LineFaultAt}
use Rattle.ir_verify.proofs.Founds.{notes-step, notes-all}
use Rattle.ir_verify.proofs.verify.note_lines.Goals as goal
use Rattle.list_laws.proofs.Places.{seen_at}

pub loop-place-preserved : goal.loop-place-preserved
loop-place-preserved c =
    let content = c.args.module.now.content in
    let func = c.args.func.now in
    let rows = unwrap_or (slice_get c.args.cases.now c.args.number) [] in
    let place = c.loop-place.place in
    let inst = c.index-insts-place.result.now in
    let at : slice_get (insts_of func) place ≡ Some inst
    = ap (λ (xs : List Instruction). slice_get xs place) (sym c.requires.insts)
    ∙ seen_at (λ (one : Bor Instruction). one.now) c.args.insts.now place c.index-insts-place.result c.loop-place-test.true c.index-insts-place.is in
    let f = c.args.first.now.found in
    let g = c.loop-place.first.found in
    let h = c.note_line.new.first.found in
    notes-step (LineFaultAt content func rows) (insts_of func) place inst f g h at c.loop-place.invariant c.in_ok-note_line.ensures

pub returns : goal.returns
returns c =
    let func = c.args.func.now in
    let size : length (insts_of func) ≡ length c.args.insts.now = ap length (sym c.requires.insts) ∙ length-map c.args.insts.now (λ (one : Bor Instruction). one.now) in
    notes-all (LineFaultAt c.args.module.now.content func (unwrap_or (slice_get c.args.cases.now c.args.number) [])) (insts_of func) c.loop-place.place
    c.args.first.now.found c.loop-place.first.found (omega (arith, size)) c.loop-place.invariant
