use Rattle.std.proofs.Common.{◌≡◌, ◌++◌, drop}
use Rattle.phi_webs.specs.Settled.{web_of}
use Rattle.thin_phis.specs.Runs.{web_in}
use Rattle.thin_phis.proofs.webs.web.Given as goal

abbrev pub invariant-loop-block : goal.invariant-loop-block
invariant-loop-block l = record {
  web : web_in l.joins l.rows l.cfg l.entries 0 l.block-items ≡ web_of l.web.items ++ web_in l.joins l.rows l.cfg l.rest l.block-index (drop l.block-index l.block-items);
  number : l.number ≡ l.block-index;
}
