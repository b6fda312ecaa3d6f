use Rattle.std.proofs.Common.{◌++◌, List, map, ap, sym, ◌∙◌, ◌∷◌, subst, refl}
use Rattle.sp_text.specs.Tokens.{Tok, tokens, tok}
use Rattle.sp_text.specs.TokenAt.{seen_token}
use Rattle.sp_text.specs.declared.tokens.Token.{Token}
use Rattle.line_parts.specs.Gives.{noted}
use Rattle.line_parts.proofs.Notes.{IsEnd, noted-token, noted-end}
use Rattle.line_parts.proofs.cursor.Cursor.token.Goals as goal

pub returns-in-Some : goal.returns-in-Some
returns-in-Some c = sym c.self.view_is ∙ ap (λ (found : List Token). noted c.self.inside.passed (map seen_token found ++ tokens c.self.inside.rest.now)) c.in-Some.ensures.token ∙ noted-token c.self.inside.passed _ _ _

pub returns-in-Some-first_of : goal.returns-in-Some-first_of
returns-in-Some-first_of c =
    let here = sym c.self.view_is ∙ ap (λ (found : List Token). noted c.self.inside.passed (map seen_token found ++ tokens c.self.inside.rest.now)) c.in-None.ensures.token ∙ ap (noted c.self.inside.passed) c.in-Some-first_of.ensures in
    let first : Tok = tok c.in-Some-first_of.token.kind c.in-Some-first_of.token.bytes.now in
    let behind = ap (λ (found : List Token). first ∷ noted c.self.inside.passed (map seen_token found ++ tokens c.in-Some-first_of.more.now)) (sym c.in-None.ensures.token) in
    here ∙ noted-token c.self.inside.passed _ _ _ ∙ behind

pub returns-in-None-first_of : goal.returns-in-None-first_of
returns-in-None-first_of c =
    let here = sym c.self.view_is ∙ ap (λ (found : List Token). noted c.self.inside.passed (map seen_token found ++ tokens c.self.inside.rest.now)) c.in-None.ensures.token in
    (refl, subst IsEnd (sym here) (noted-end c.self.inside.passed (tokens c.self.inside.rest.now) c.in-None-first_of.ensures))
