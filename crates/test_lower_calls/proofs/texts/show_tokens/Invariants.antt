use Rattle.std.proofs.Common.{length, ◌+◌, ◌-◌}
use Rattle.test_lower_calls.proofs.texts.show_tokens.Given as goal

abbrev pub decreases-loop-at : goal.decreases-loop-at
decreases-loop-at g l = length l.line.bytes.now + 1 - l.at
