use Rattle.std.proofs.Common.{◌++◌, ◌≤◌, ◌^◌, List, length, map, drop, arith}
use Rattle.sp_text.specs.Tokens.{Tok, tokens}
use Rattle.sp_text.specs.TokenAt.{seen_token}
use Rattle.line_parts.specs.Gives.{noted}
use Rattle.line_parts.proofs.Notes.{noted-length}
use Rattle.line_parts.proofs.cursor.Cursor.copied.Goals as goal

pub returns-clause-small : goal.returns-clause-small
returns-clause-small c =
    let ts : List Tok = map seen_token (drop c.self.inside.at c.self.inside.found.now) ++ tokens c.self.inside.rest.now in
    let most : length (noted c.self.inside.passed ts) ≤ 2 ^ 63 = omega (arith, noted-length c.self.inside.passed ts, c.self.invariant) in
    most
