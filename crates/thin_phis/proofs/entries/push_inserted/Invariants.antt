use Rattle.std.proofs.Common.{◌≡◌, ◌++◌, map, take}
use Rattle.std.specs.List.{flat_map}
use Rattle.ssa_rebuild.specs.Answers.{number_of}
use Rattle.thin_phis.specs.Runs.{phis_over, behind_phis, phi_left}
use Rattle.thin_phis.proofs.entries.push_inserted.Given as goal

abbrev pub invariant-loop-slot : goal.invariant-loop-slot
invariant-loop-slot l = record {
  after : l.after.items ≡ l.initial.after.items ++ flat_map (phi_left l.numbers) (phis_over l.width (map number_of (take l.slot-index l.slots)) l.initial.rest);
  rest : l.rest ≡ behind_phis l.width (map number_of (take l.slot-index l.slots)) l.initial.rest;
}
