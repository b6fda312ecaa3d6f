use Rattle.std.proofs.Common.{◌≡◌, ◌++◌, length, map}
use Rattle.sp_text.specs.TokenAt.{seen_token}
use Rattle.sp_text.specs.Tokens.{tokens}
use Rattle.llvm_features.proofs.rows.put_behind.Given as goal

abbrev pub invariant-tokens : goal.invariant-tokens
invariant-tokens l = map seen_token l.row.items ++ tokens l.left ≡ map seen_token l.initial.row.items ++ tokens l.bytes

abbrev pub decreases-tokens : goal.decreases-tokens
decreases-tokens l = length l.left
