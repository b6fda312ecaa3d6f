use Rattle.std.proofs.Common.{◌∙◌, sym, refl, ap, length}
use Rattle.std.proofs.lemmas.Bool.{eqb-true}
use Rattle.sp_text.specs.Lines.{lines_left}
use Rattle.sp_text.proofs.LineLemmas.{left-more, left-none}
use Rattle.sp_text.proofs.lines.Lines.next_line.Goals as goal

pub returns-then-is_empty-clause-end : goal.returns-then-is_empty-clause-end
returns-then-is_empty-clause-end c =
    let none = eqb-true (length c.split_at.result.1.now) 0 (sym c.if-is_empty.ensures) in (
      (λ _. ap lines_left (sym c.self.view_is) ∙ left-none _ _ c.self.inside.number _ c.split_at.ensures.back none),
      (λ _. refl),
    )

pub returns-clause-end : goal.returns-clause-end
returns-clause-end c =
    let more = ap lines_left (sym c.self.view_is) ∙ left-more _ _ c.self.inside.number _ _ _ c.split_at.ensures.back c.first_line-taken.ensures.first in
    ((λ e. cc), (λ e. cc (more, e)))

pub returns-clause-next : goal.returns-clause-next
returns-clause-next c =
    ap lines_left (sym c.self.view_is) ∙ left-more _ _ c.self.inside.number _ _ _ c.split_at.ensures.back c.first_line-taken.ensures.first
