use Rattle.std.proofs.Common.{sym, refl}
use Rattle.sp_text.proofs.TokenLemmas.{tokens-blank}
use Rattle.sp_text.proofs.first_tokens.past_space.Goals as goal

pub returns-in-Some-eq32-default-clause-same : goal.returns-in-Some-eq32-default-clause-same
returns-in-Some-eq32-default-clause-same c =
    rw (c.in-Some-eq32-default.ensures.cases.0, c.in-Some-eq32-default.field-0-0-test) (sym (tokens-blank _ _ refl))
