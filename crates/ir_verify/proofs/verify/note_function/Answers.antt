use Rattle.std.proofs.Common.{[], subst}
use Rattle.ir_ast.specs.declared.modules.Form.{Form}
use Rattle.ir_lines.specs.Notes.{Notes}
use Rattle.std.specs.Prelude.{slice_get, unwrap_or}
use Rattle.ir_lines.proofs.NoteLemmas.{Either, notes-then}
use Rattle.ir_verify.specs.Bodies.{insts_of}
use Rattle.ir_verify.specs.Founds.{FoundIn}
use Rattle.ir_verify.specs.FunctionFaults.{LineFaultAt, BlockFaultAt, FormFault}
use Rattle.ir_verify.proofs.verify.note_function.Goals as goal
use Rattle.list_laws.proofs.Options.{on_ok}

pub returns : goal.returns
returns c =
    let content = c.args.module.now.content in
    let func = c.args.func.now in
    let rows = unwrap_or (slice_get c.args.cases.now c.args.number) [] in
    let f = c.args.first.now.found in
    let g = c.note_lines.new.first.found in
    let h = c.note_phis.new.first.found in
    let i = c.note_by_form.new.first.found in
    on_ok c.note_by_form.result _ _
    (λ by_form. notes-then f g i (FoundIn (LineFaultAt content func rows) (insts_of func))
    (Either (FoundIn (BlockFaultAt func) func.content.blocks) (FormFault content.form func)) c.in_ok-note_lines.ensures
    (notes-then g h i (FoundIn (BlockFaultAt func) func.content.blocks) (FormFault content.form func) c.in_ok-note_phis.ensures
    (subst (λ (form : Form). Notes h i (FormFault form func)) c.form.ensures by_form)))
    c.note_by_form.ensures
