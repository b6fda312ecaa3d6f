use Rattle.std.proofs.Common.{◌≡◌, ◌∙◌, ℕ, ◌+◌, ◌<◌, List, length, true, ap, subst}
use Rattle.ir_ast.specs.declared.funcs.Arg.{Arg}
use Rattle.ir_ast.specs.Insts.{Instruction}
use Rattle.body_tables.specs.Bodies.{seen_insts}
use Rattle.folded_forms.specs.Folded.{stays}
use Rattle.folded_forms.specs.Foldings.{IsThinning}
use Rattle.fold_tables.specs.Checks.{ThinsAt}
use Rattle.fold_tables.specs.Lines.{EachLine, results_of}
use Rattle.fold_tables.proofs.CheckLaws.{thinning_from}
use Rattle.fold_tables.proofs.ListLaws.{on_true_both}
use Rattle.fold_tables.proofs.thinning.is_thinning.Goals as goal

pub returns-then-keeps_front : goal.returns-then-keeps_front
returns-then-keeps_front c =
    let func = c.args.func.now.content in
    let table = c.args.table.now in
    let args = c.args-then-keeps_front.ensures.value in
    let insts = c.requires in
    let front = subst (λ (ys : List Arg). (value : ℕ) → value < length ys → stays table value ≡ true) c.args-2.ensures.value c.if-keeps_front.ensures in
    on_true_both c.thins_each.result _ _ (IsThinning func table) (λ counted lines.
    let whole = counted ∙ (ap (λ (ys : List Arg). length ys + results_of (seen_insts c.args.insts.now)) args ∙ ap (λ (xs : List Instruction). length func.args + results_of xs) insts) in
    let each = subst (λ (xs : List Instruction). EachLine (ThinsAt table) (length func.args) xs) insts
    (subst (λ (ys : List Arg). EachLine (ThinsAt table) (length ys) (seen_insts c.args.insts.now)) args lines) in
    thinning_from func table whole front each) c.thins_each.ensures.whole c.thins_each.ensures.each
