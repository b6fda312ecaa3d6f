use Rattle.std.proofs.Common.{take}
use Rattle.std.specs.List.{All}
use Rattle.ir_verify.specs.Groups.{NamesToken}
use Rattle.ir_verify.proofs.groups.no_token_kept.Given as goal

abbrev pub invariant-loop-entry : goal.invariant-loop-entry
invariant-loop-entry l = All (λ entry. ¬ NamesToken l.types entry.1) (take l.entry-index l.bundle)
