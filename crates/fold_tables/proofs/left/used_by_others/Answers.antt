use Rattle.std.proofs.Common.{◌∙◌, Bool, List, length, inl, inr, sym, ap, arith}
use Rattle.ir_ast.specs.Lists.{has_mark}
use Rattle.fold_tables.proofs.ListLaws.{none_marked, written_back}
use Rattle.fold_tables.proofs.left.used_by_others.Goals as goal

pub returns : goal.returns
returns c = λ value marked.
    let old = c.in_ok-marks.marks.items in
    let now = c.mark_each.new.marks in
    let back = written_back c.in_ok-marks.marks.len old now (c.mark_each.auto.marks ∙ ap length c.as_mut_slice.ensures.value) (omega (arith, c.in_ok-marks.marks.ok.0)) in
    elim (c.mark_each.ensures value (ap (λ (ms : List Bool). has_mark ms value) (sym back) ∙ marked)) [
      | inl before ↦ absurd (none_marked _ value (ap (λ (ms : List Bool). has_mark ms value) (sym (c.as_mut_slice.ensures.value ∙ c.in_ok-marks.ensures)) ∙ before))
      | inr used ↦ used
    ]
