use Rattle.std.proofs.Common.{◌++◌, ◌+◌, List, map, drop, ap, sym, ◌∙◌, subst}
use Rattle.sp_text.specs.Tokens.{tokens}
use Rattle.sp_text.specs.TokenAt.{seen_token}
use Rattle.sp_text.specs.declared.tokens.Token.{Token}
use Rattle.line_parts.specs.Gives.{noted}
use Rattle.line_parts.proofs.Notes.{IsEnd, noted-token, noted-end}
use Rattle.line_parts.proofs.cursor.Cursor.peek.Goals as goal

pub returns-in-Some : goal.returns-in-Some
returns-in-Some c =
    let here = sym c.self.view_is ∙ ap (λ (found : List Token). noted c.self.inside.passed (map seen_token found ++ tokens c.self.inside.rest.now)) c.in-Some.ensures.token in
    (noted c.self.inside.passed (map seen_token (drop (c.self.inside.at + 1) c.self.inside.found.now) ++ tokens c.self.inside.rest.now), here ∙ noted-token c.self.inside.passed _ _ _)

pub returns-in-Some-first_of : goal.returns-in-Some-first_of
returns-in-Some-first_of c =
    let here = sym c.self.view_is ∙ ap (λ (found : List Token). noted c.self.inside.passed (map seen_token found ++ tokens c.self.inside.rest.now)) c.in-None.ensures.token ∙ ap (noted c.self.inside.passed) c.in-Some-first_of.ensures in
    (noted c.self.inside.passed (tokens c.in-Some-first_of.field-0-1.now), here ∙ noted-token c.self.inside.passed _ _ _)

pub returns-in-None-first_of : goal.returns-in-None-first_of
returns-in-None-first_of c =
    let here = sym c.self.view_is ∙ ap (λ (found : List Token). noted c.self.inside.passed (map seen_token found ++ tokens c.self.inside.rest.now)) c.in-None.ensures.token in
    subst IsEnd (sym here) (noted-end c.self.inside.passed (tokens c.self.inside.rest.now) c.in-None-first_of.ensures)
