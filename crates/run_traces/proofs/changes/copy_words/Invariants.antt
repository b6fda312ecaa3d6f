use Rattle.std.proofs.Common.{◌≡◌, take, drop}
use Rattle.run_traces.proofs.changes.copy_words.Given as goal

abbrev pub invariant-loop-offset : goal.invariant-loop-offset
invariant-loop-offset l = l.words.items ≡ take l.offset (drop l.place l.stack)
