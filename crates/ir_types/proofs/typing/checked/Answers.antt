use Rattle.std.proofs.Common.{List, None, Option, sym, subst}
use Rattle.std.specs.Prelude.{map}
use Rattle.ir_ast.specs.declared.modules.Form.{Form}
use Rattle.ir_ast.specs.Formed.{IsFormedModule}
use Rattle.ir_reader.specs.declared.raw.NumberedReading.{NumberedReading}
use Rattle.ir_lines.specs.declared.faults.Fault.{Fault}
use Rattle.ir_lines.specs.Notes.{Notes}
use Rattle.ir_lines.specs.Views.{seen_lines}
use Rattle.ir_resolve.specs.FaultSet.{HasResolvedFault}
use Rattle.ir_lines.specs.TextLines.{IsTextLines}
use Rattle.module_laws.proofs.ReadTexts.{read-lines}
use Rattle.ir_lines.proofs.NoteLemmas.{notes-least}
use Rattle.ir_types.proofs.AnswerLaws.{text-noted, text-unbroken, text-module, formed-text, answers-paths, module-paths, kept-paths, functions-paths}
use Rattle.ir_types.proofs.PathLaw.{plain-least}
use Rattle.ir_types.proofs.typing.checked.Goals as goal

pub resolve-requires : goal.resolve-requires
resolve-requires c =
    subst (λ (rs : List NumberedReading). IsTextLines c.form-form.result (seen_lines rs)) (sym c.into_lines.ensures.lines)
    (subst (λ (form : Form). IsTextLines form (seen_lines c.args.raw.lines)) (sym c.form-form.ensures) (read-lines c.args.raw c.into_lines.ensures.read))

pub with_paths-requires : goal.with_paths-requires
with_paths-requires c =
    let noted = text-noted c.args.raw c.form-form.result c.into_lines.result c.form-form.ensures c.into_lines.ensures.lines c.in_ok-text.text.fault c.in_ok-fault.field-0
    c.in_ok-text.text.whole c.in_ok-text.text.cases.items c.as_slice.result.now c.in_ok-text.ensures.whole c.in_ok-text.ensures.cases c.as_slice.ensures.value
    c.in_ok-text.ensures.fault c.in_ok-fault.ensures in
    let none = text-unbroken c.args.raw c.in_ok-fault.field-0 c.in-None.is noted in
    let is = text-module c.args.raw c.form-form.result c.into_lines.result c.form-form.ensures c.into_lines.ensures.lines c.in_ok-text.text.whole
    c.in_ok-text.ensures.whole in
    formed-text c.args.raw c.into_lines.ensures.read c.in_ok-text.text.whole is none

pub returns-in-Some-clause-answers : goal.returns-in-Some-clause-answers
returns-in-Some-clause-answers c =
    let form = c.args.raw.form in
    let lines = seen_lines c.args.raw.lines in
    let noted = text-noted c.args.raw c.form-form.result c.into_lines.result c.form-form.ensures c.into_lines.ensures.lines c.in_ok-text.text.fault c.in_ok-fault.field-0
    c.in_ok-text.text.whole c.in_ok-text.text.cases.items c.as_slice.result.now c.in_ok-text.ensures.whole c.in_ok-text.ensures.cases c.as_slice.ensures.value
    c.in_ok-text.ensures.fault c.in_ok-fault.ensures in
    plain-least form lines c.in-Some.fault.line c.in-Some.fault.code
    (notes-least (λ line code. HasResolvedFault form lines line code) c.in-Some.fault
    (subst (λ (found : Option Fault). Notes None found (λ line code. HasResolvedFault form lines line code)) c.in-Some.is noted))

pub returns-in-None-clause-answers : goal.returns-in-None-clause-answers
returns-in-None-clause-answers c =
    let noted = text-noted c.args.raw c.form-form.result c.into_lines.result c.form-form.ensures c.into_lines.ensures.lines c.in_ok-text.text.fault c.in_ok-fault.field-0
    c.in_ok-text.text.whole c.in_ok-text.text.cases.items c.as_slice.result.now c.in_ok-text.ensures.whole c.in_ok-text.ensures.cases c.as_slice.ensures.value
    c.in_ok-text.ensures.fault c.in_ok-fault.ensures in
    let none = text-unbroken c.args.raw c.in_ok-fault.field-0 c.in-None.is noted in
    let is = text-module c.args.raw c.form-form.result c.into_lines.result c.form-form.ensures c.into_lines.ensures.lines c.in_ok-text.text.whole
    c.in_ok-text.ensures.whole in
    answers-paths c.args.raw c.into_lines.ensures.read c.in_ok-text.text.whole is none c.with_paths.result c.with_paths.ensures

pub returns-in-None-clause-module : goal.returns-in-None-clause-module
returns-in-None-clause-module c =
    let noted = text-noted c.args.raw c.form-form.result c.into_lines.result c.form-form.ensures c.into_lines.ensures.lines c.in_ok-text.text.fault c.in_ok-fault.field-0
    c.in_ok-text.text.whole c.in_ok-text.text.cases.items c.as_slice.result.now c.in_ok-text.ensures.whole c.in_ok-text.ensures.cases c.as_slice.ensures.value
    c.in_ok-text.ensures.fault c.in_ok-fault.ensures in
    let none = text-unbroken c.args.raw c.in_ok-fault.field-0 c.in-None.is noted in
    let is = text-module c.args.raw c.form-form.result c.into_lines.result c.form-form.ensures c.into_lines.ensures.lines c.in_ok-text.text.whole
    c.in_ok-text.ensures.whole in
    module-paths c.args.raw c.into_lines.ensures.read c.in_ok-text.text.whole is none c.with_paths.result c.with_paths.ensures

pub returns-in-None-clause-few_instructions : goal.returns-in-None-clause-few_instructions
returns-in-None-clause-few_instructions c =
    let noted = text-noted c.args.raw c.form-form.result c.into_lines.result c.form-form.ensures c.into_lines.ensures.lines c.in_ok-text.text.fault c.in_ok-fault.field-0
    c.in_ok-text.text.whole c.in_ok-text.text.cases.items c.as_slice.result.now c.in_ok-text.ensures.whole c.in_ok-text.ensures.cases c.as_slice.ensures.value
    c.in_ok-text.ensures.fault c.in_ok-fault.ensures in
    let none = text-unbroken c.args.raw c.in_ok-fault.field-0 c.in-None.is noted in
    let is = text-module c.args.raw c.form-form.result c.into_lines.result c.form-form.ensures c.into_lines.ensures.lines c.in_ok-text.text.whole
    c.in_ok-text.ensures.whole in
    functions-paths c.args.raw c.into_lines.ensures.read c.in_ok-text.text.whole is none c.with_paths.result c.with_paths.ensures

pub returns-in-None-clause-formed : goal.returns-in-None-clause-formed
returns-in-None-clause-formed c =
    let noted = text-noted c.args.raw c.form-form.result c.into_lines.result c.form-form.ensures c.into_lines.ensures.lines c.in_ok-text.text.fault c.in_ok-fault.field-0
    c.in_ok-text.text.whole c.in_ok-text.text.cases.items c.as_slice.result.now c.in_ok-text.ensures.whole c.in_ok-text.ensures.cases c.as_slice.ensures.value
    c.in_ok-text.ensures.fault c.in_ok-fault.ensures in
    let none = text-unbroken c.args.raw c.in_ok-fault.field-0 c.in-None.is noted in
    let is = text-module c.args.raw c.form-form.result c.into_lines.result c.form-form.ensures c.into_lines.ensures.lines c.in_ok-text.text.whole
    c.in_ok-text.ensures.whole in
    kept-paths (λ whole. IsFormedModule whole.content) c.in_ok-text.text.whole
    (formed-text c.args.raw c.into_lines.ensures.read c.in_ok-text.text.whole is none) c.with_paths.result c.with_paths.ensures
