use Rattle.std.proofs.Common.{◌≡◌, true}
use Rattle.std.specs.List.{list_all, range_with_len}
use Rattle.entry_groups.specs.Entry.{leads_on}
use Rattle.entry_groups.proofs.waits.leads_forward.Given as goal

abbrev pub invariant-loop-number : goal.invariant-loop-number
invariant-loop-number l = list_all (leads_on l.blocks) (range_with_len 0 l.number) ≡ true
