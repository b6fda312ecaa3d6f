use Rattle.std.proofs.Common.{◌≡◌, ◌∙◌, ℕ, ◌+◌, ◌<◌, Bool, List, length, true, ap, subst}
use Rattle.ir_ast.specs.declared.types.Ty.{Ty}
use Rattle.ir_ast.specs.declared.funcs.Arg.{Arg}
use Rattle.ir_ast.specs.Insts.{Instruction}
use Rattle.body_tables.specs.Bodies.{seen_insts}
use Rattle.folded_forms.specs.Folded.{stays}
use Rattle.folded_forms.specs.Foldings.{IsFolding}
use Rattle.fold_tables.specs.Checks.{DerivedAlike, FitsAt, FoldsAt}
use Rattle.fold_tables.specs.Lines.{EachLine, results_of}
use Rattle.fold_tables.proofs.CheckLaws.{folding_from}
use Rattle.fold_tables.proofs.ListLaws.{on_true_weaker}
use Rattle.fold_tables.proofs.folding.is_folding.Goals as goal

pub returns : goal.returns
returns c =
    let func = c.args.func.now.content in
    let table = c.args.table.now in
    let marks = c.in_ok-marks.marks.items in
    let args = c.args-else-not-is_closed.ensures.value in
    let insts = c.requires in
    let whole = c.if-not-folds_each.ensures.whole ∙ (ap (λ (ys : List Arg). length ys + results_of (seen_insts c.args.insts.now)) args ∙ ap (λ (xs : List Instruction). length func.args + results_of xs) insts) in
    let front = subst (λ (ys : List Arg). (value : ℕ) → value < length ys → stays table value ≡ true) c.args-2.ensures.value c.if-not-keeps_front.ensures in
    let each = subst (λ (xs : List Instruction). EachLine (FoldsAt table) (length func.args) xs) insts
    (subst (λ (ys : List Arg). EachLine (FoldsAt table) (length ys) (seen_insts c.args.insts.now)) args c.if-not-folds_each.ensures.each) in
    let fit = subst (λ (types : List Ty). (value : ℕ) → value < length table → FitsAt types table value) (c.as_slice.ensures.value ∙ c.in_ok-values.ensures.types) c.if-not-fit_each.ensures in
    on_true_weaker c.are_derived_alike.result _ (IsFolding func table) (λ alike.
    folding_from func table whole marks front c.if-not-is_closed.ensures each fit c.in_ok-marks.ensures
    (subst (λ (ms : List Bool). (value : ℕ) → value < length table → DerivedAlike ms table value) c.as_slice-2.ensures.value alike)) c.are_derived_alike.ensures
