use Rattle.std.proofs.Common.{◌∙◌, sym}
use Rattle.std.proofs.lemmas.List.{nil_from_length}
use Rattle.sp_text.proofs.LabelLines.{label-front, label-said, label-whole, label-other}
use Rattle.sp_text.proofs.labels.label_in.Goals as goal
use Rattle.sp_text.proofs.labels.label_in.Goals.{else-first-eq58-via-then-first-eq58+else-says_nothing, else-first-eq58-via-else-first-eq58}

pub returns-in_err-first : goal.returns-in_err-first
returns-in_err-first c =
    rw c.from_residual-in_err-first.ensures
    (sym (label-whole _ c.in_ok-end.end c.in_ok-end.ensures (sym c.split_at.ensures.back ∙ nil_from_length _ c.in_err-first.ensures.cases)))

pub returns-then-says_nothing : goal.returns-then-says_nothing
returns-then-says_nothing c =
    let rest = rw c.if-first-eq58.true at c.in_ok-first.ensures.cases.0 in
    rw c.split_at.ensures.front
    (sym (label-front _ _ c.in_ok-end.end c.in_ok-end.ensures (sym c.split_at.ensures.back ∙ rest) (sym c.if-says_nothing.ensures)))

pub returns-else-first-eq58 : goal.returns-else-first-eq58
returns-else-first-eq58 c =
    let rest = c.in_ok-first.ensures.cases.0 in
    elim c.else-first-eq58.branch [
      | else-first-eq58-via-then-first-eq58+else-says_nothing w ↦
          (let colon_rest = rw w.if-first-eq58.true at rest in
          sym (label-said _ _ c.in_ok-end.end c.in_ok-end.ensures (sym c.split_at.ensures.back ∙ colon_rest) (sym w.if-says_nothing.ensures)))
      | else-first-eq58-via-else-first-eq58 w ↦
          sym (label-other _ _ _ c.in_ok-end.end c.in_ok-end.ensures (sym c.split_at.ensures.back ∙ rest) w.if-first-eq58.false)
    ]
