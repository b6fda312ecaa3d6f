use Rattle.std.proofs.Common.{◌∙◌, ◌+◌, ◌∷◌, ap, sym, drop}
use Rattle.ir_lines.specs.Views.{seen_lines}
use Rattle.ir_lines.specs.Modules.{case_values, case_labels}
use Rattle.module_build.proofs.CaseLemmas.{case_values-more, case_labels-more, moved}
use Rattle.list_laws.proofs.Places.{drop_item}
use Rattle.module_build.proofs.build.switch.Goals as goal

pub loop-line-preserved : goal.loop-line-preserved
loop-line-preserved c =
    let here = drop_item c.args.behind.now c.loop-line.line-index c.line-item.result c.loop-line-test.true c.line-item.is in
    let rest = seen_lines (drop (c.loop-line.line-index + 1) c.args.behind.now) in
    record {
      made = moved _ _ _ _ _ _ c.in_ok-push-3.ensures.ok
          (ap (λ ys. case_values c.args.local.now.values c.args.width.bits (seen_lines ys)) here
          ∙ case_values-more c.args.local.now.values c.args.width.bits c.line-item.result rest c.in-Case.width c.in-Case.value c.in-Case.label c.in-Case.is
          ∙ ap (λ one. one ∷ case_values c.args.local.now.values c.args.width.bits rest) (sym c.operand-in-loop-line.ensures))
          c.loop-line.invariant.made;
      labelled = moved _ _ _ _ _ _ c.in_ok-push-4.ensures.ok
          (ap (λ ys. case_labels c.args.local.now.blocks (seen_lines ys)) here
          ∙ case_labels-more c.args.local.now.blocks c.line-item.result rest c.in-Case.width c.in-Case.value c.in-Case.label c.in-Case.is
          ∙ ap (λ one. one ∷ case_labels c.args.local.now.blocks rest) (sym c.label-in-loop-line.ensures))
          c.loop-line.invariant.labelled;
    }
