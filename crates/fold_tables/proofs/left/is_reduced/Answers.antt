use Rattle.std.proofs.Common.{Bool, List, length, subst}
use Rattle.ir_ast.specs.declared.funcs.Arg.{Arg}
use Rattle.ir_ast.specs.Insts.{Instruction}
use Rattle.body_tables.specs.Bodies.{seen_insts}
use Rattle.folded_forms.specs.Foldable.{IsReduced}
use Rattle.fold_tables.specs.Checks.{LeftAt, MarksUsed}
use Rattle.fold_tables.specs.Lines.{EachLine}
use Rattle.fold_tables.proofs.CheckLaws.{reduced_from}
use Rattle.fold_tables.proofs.ListLaws.{on_true_weaker}
use Rattle.fold_tables.proofs.left.is_reduced.Goals as goal

pub returns : goal.returns
returns c =
    let func = c.args.func.now.content in
    let marks = c.in_ok-marks.marks.items in
    let args = c.args-first.ensures.value in
    let insts = c.requires in
    let used = subst (λ (xs : List Instruction). MarksUsed (length func.args) xs marks) insts
    (subst (λ (ys : List Arg). MarksUsed (length ys) (seen_insts c.args.insts.now) marks) args c.in_ok-marks.ensures) in
    on_true_weaker c.all_left.result _ (IsReduced func) (λ left.
    reduced_from func marks used (subst (λ (xs : List Instruction). EachLine (LeftAt marks) (length func.args) xs) insts
    (subst (λ (ys : List Arg). EachLine (LeftAt marks) (length ys) (seen_insts c.args.insts.now)) args
    (subst (λ (ms : List Bool). EachLine (LeftAt ms) (length c.args-first.result.now) (seen_insts c.args.insts.now)) c.as_slice.ensures.value left)))) c.all_left.ensures
