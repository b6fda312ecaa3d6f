use Rattle.std.proofs.Common.{◌≡◌, take}
use Rattle.thin_phis.specs.Runs.{behind_entries}
use Rattle.thin_phis.proofs.webs.skip_own.Given as goal

abbrev pub invariant-loop-inst : goal.invariant-loop-inst
invariant-loop-inst l = l.rest ≡ behind_entries (take l.inst-index l.insts) l.initial.rest
