use Rattle.std.proofs.Common.{◌≡◌, length, map}
use Rattle.std.specs.List.{list_any}
use Rattle.line_tokens.specs.Marks.{is_word}
use Rattle.sp_text.specs.TokenAt.{seen_token}
use Rattle.llvm_features.proofs.telling.has_word.Given as goal

abbrev pub invariant-loop-left : goal.invariant-loop-left
invariant-loop-left l = list_any (is_word l.word) (map seen_token l.left) ≡ list_any (is_word l.word) (map seen_token l.tokens)

abbrev pub decreases-loop-left : goal.decreases-loop-left
decreases-loop-left l = length l.left
