use Rattle.std.proofs.Common.{◌≡◌, length, map}
use Rattle.sp_text.specs.TokenAt.{seen_token}
use Rattle.llvm_features.specs.Rows.{row_of}
use Rattle.llvm_features.specs.Features.{body_tells}
use Rattle.llvm_features.proofs.telling.body_tells.Given as goal

abbrev pub invariant-loop-left : goal.invariant-loop-left
invariant-loop-left l = body_tells (row_of (map seen_token l.left) l.whole) ≡ body_tells (row_of (map seen_token l.tokens) l.whole)

abbrev pub decreases-loop-left : goal.decreases-loop-left
decreases-loop-left l = length l.left
