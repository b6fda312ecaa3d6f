use Rattle.std.proofs.Common.{sym, ap, ◌∙◌}
use Rattle.machine_lines.specs.declared.decoded.Decoded.{Decoded}
use Rattle.machine_lines.proofs.PhiLemmas.{index_at, index_is}
use Rattle.machine_lines.proofs.decoded.Decoded.index.Goals as goal

pub returns-in-Register : goal.returns-in-Register
returns-in-Register c = λ member is. index_is member.operands 2 ∙ ap (λ (d : Decoded). index_at d.third) (sym is) ∙ ap index_at c.in-Register.is

pub returns-in-Literal : goal.returns-in-Literal
returns-in-Literal c = λ member is. index_is member.operands 2 ∙ ap (λ (d : Decoded). index_at d.third) (sym is) ∙ ap index_at c.in-Literal.is
