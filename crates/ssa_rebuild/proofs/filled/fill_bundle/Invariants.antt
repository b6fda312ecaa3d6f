use Rattle.std.proofs.Common.{◌≡◌, ◌++◌, take, drop}
use Rattle.ssa_rebuild.specs.Rows.{held_in}
use Rattle.ssa_rebuild.specs.Written.{filled_bundle, left}
use Rattle.ssa_rebuild.proofs.filled.fill_bundle.Given as goal

abbrev pub invariant-loop-entry : goal.invariant-loop-entry
invariant-loop-entry l = record {
  value : take l.entry-index l.bundle ++ filled_bundle l.numbers (drop l.entry-index l.bundle) ≡ filled_bundle l.initial.numbers l.initial.bundle;
  rest : left l.numbers (held_in (drop l.entry-index l.bundle)) ≡ left l.initial.numbers (held_in l.initial.bundle);
}
