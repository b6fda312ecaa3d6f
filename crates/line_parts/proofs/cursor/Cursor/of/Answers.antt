use Rattle.std.proofs.Common.{◌<◌, ◌^◌, List, length, arith, subst}
use Rattle.sp_text.specs.Tokens.{Tok}
use Rattle.line_parts.proofs.cursor.Cursor.of.Goals as goal
use Rattle.sp_text.proofs.Spelled.{length-tokens}

pub invariant_of-result : goal.invariant_of-result
invariant_of-result c = rw c.split_at.ensures.back (subst (λ (found : List Tok). length found < 2 ^ 63) c.requires.all (omega (arith, length-tokens c.args.line.bytes.now)))
