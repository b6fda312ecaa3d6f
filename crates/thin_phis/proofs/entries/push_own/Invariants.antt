use Rattle.std.proofs.Common.{◌≡◌, ◌++◌, map, take}
use Rattle.thin_phis.specs.Thinned.{number_now}
use Rattle.thin_phis.specs.Runs.{entries_over, behind_entries}
use Rattle.thin_phis.proofs.entries.push_own.Given as goal

abbrev pub invariant-loop-inst : goal.invariant-loop-inst
invariant-loop-inst l = record {
  after : l.after.items ≡ l.initial.after.items ++ map (number_now l.numbers) (entries_over (take l.inst-index l.insts) l.initial.rest);
  rest : l.rest ≡ behind_entries (take l.inst-index l.insts) l.initial.rest;
}
