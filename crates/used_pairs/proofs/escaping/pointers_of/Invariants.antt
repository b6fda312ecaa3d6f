use Rattle.std.proofs.Common.{◌≡◌, ◌++◌, drop}
use Rattle.pair_facts.specs.Uses.{pointers_of}
use Rattle.used_pairs.proofs.escaping.pointers_of.Given as goal

abbrev pub invariant-loop-place : goal.invariant-loop-place
invariant-loop-place l = l.pointers.items ++ pointers_of (drop l.place l.types) (drop l.place l.operands) ≡ pointers_of l.types l.operands
