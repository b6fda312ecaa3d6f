use Rattle.std.proofs.Common.{◌++◌, List, map, ap, sym, ◌∙◌}
use Rattle.sp_text.specs.Tokens.{tokens}
use Rattle.sp_text.specs.TokenAt.{seen_token}
use Rattle.sp_text.specs.declared.tokens.Token.{Token}
use Rattle.line_parts.specs.Gives.{noted, end_of}
use Rattle.line_parts.proofs.Notes.{end-token, end-nil, end-none}
use Rattle.line_parts.proofs.cursor.Cursor.end.Goals as goal

pub returns-in-Some : goal.returns-in-Some
returns-in-Some c =
    let here = sym c.self.view_is ∙ ap (λ (found : List Token). noted c.self.inside.passed (map seen_token found ++ tokens c.self.inside.rest.now)) c.in-Some.ensures.token in
    sym (ap end_of here ∙ end-token c.self.inside.passed _ _ _)

pub returns-then-ends : goal.returns-then-ends
returns-then-ends c =
    let here = sym c.self.view_is ∙ ap (λ (found : List Token). noted c.self.inside.passed (map seen_token found ++ tokens c.self.inside.rest.now)) c.in-None.ensures.token in
    sym (ap end_of here ∙ end-nil c.self.inside.passed (tokens c.self.inside.rest.now) (sym c.ends.ensures ∙ c.if-ends.true))

pub returns-else-ends : goal.returns-else-ends
returns-else-ends c =
    let here = sym c.self.view_is ∙ ap (λ (found : List Token). noted c.self.inside.passed (map seen_token found ++ tokens c.self.inside.rest.now)) c.in-None.ensures.token in
    sym (ap end_of here ∙ end-none c.self.inside.passed c.self.inside.rest.now (sym c.ends.ensures ∙ c.if-ends.false))
