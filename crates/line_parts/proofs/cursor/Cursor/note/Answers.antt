use Rattle.std.proofs.Common.{Bool, ◌++◌, List, map, drop, ap, ◌∙◌}
use Rattle.sp_text.specs.Tokens.{Tok, tokens}
use Rattle.sp_text.specs.TokenAt.{seen_token}
use Rattle.line_parts.specs.Gives.{noted}
use Rattle.line_parts.proofs.Notes.{noted-twice}
use Rattle.line_parts.proofs.cursor.Cursor.note.Goals as goal

pub returns : goal.returns
returns c =
    let ts : List Tok = map seen_token (drop c.self.inside.at c.self.inside.found.now) ++ tokens c.self.inside.rest.now in
    ap (λ (passed : Bool). noted passed ts) c.either-self-inside.ensures ∙ noted-twice c.self.inside.passed c.args.passes ts ∙ ap (noted c.args.passes) c.self.view_is
