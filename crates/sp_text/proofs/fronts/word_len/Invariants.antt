use Rattle.std.proofs.Common.{◌≡◌, ◌+◌, length}
use Rattle.std.specs.List.{prefix_len}
use Rattle.sp_text.specs.Bytes.{in_word}
use Rattle.sp_text.proofs.fronts.word_len.Given as goal

abbrev pub invariant-loop-rest : goal.invariant-loop-rest
invariant-loop-rest l = record {
  passed : l.len + length l.rest ≡ length l.bytes;
  run : l.len + prefix_len in_word l.rest ≡ prefix_len in_word l.bytes;
}

abbrev pub decreases-loop-rest : goal.decreases-loop-rest
decreases-loop-rest l = length l.rest
