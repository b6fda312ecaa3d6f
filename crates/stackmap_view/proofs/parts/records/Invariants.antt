use Rattle.std.proofs.Common.{◌≡◌, ◌-◌}
use Rattle.stackmap_view.specs.Steps.{records_at}
use Rattle.stackmap_view.proofs.parts.records.Given as goal

abbrev pub invariant-records : goal.invariant-records
invariant-records l = records_at l.constants (l.count - l.counter) l.whole l.rest ≡ records_at l.constants l.count l.whole l.bytes
