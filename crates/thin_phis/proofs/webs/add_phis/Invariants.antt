use Rattle.std.proofs.Common.{◌≡◌, ◌++◌, map, take}
use Rattle.phi_webs.specs.Settled.{web_of}
use Rattle.ssa_rebuild.specs.Answers.{number_of}
use Rattle.thin_phis.specs.Runs.{phis_over, behind_phis}
use Rattle.thin_phis.proofs.webs.add_phis.Given as goal

abbrev pub invariant-loop-slot : goal.invariant-loop-slot
invariant-loop-slot l = record {
  web : web_of l.web.items ≡ web_of l.initial.web.items ++ phis_over l.width (map number_of (take l.slot-index l.slots)) l.initial.rest;
  rest : l.rest ≡ behind_phis l.width (map number_of (take l.slot-index l.slots)) l.initial.rest;
}
