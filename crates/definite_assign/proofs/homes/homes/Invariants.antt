use Rattle.std.proofs.Common.{◌≡◌}
use Rattle.ir_cfg.specs.DefiniteUses.{text_place}
use Rattle.definite_assign.specs.Homes.{AreHomes}
use Rattle.definite_assign.proofs.homes.homes.Given as goal

abbrev pub invariant-loop-number : goal.invariant-loop-number
invariant-loop-number l = record {
  place : l.place ≡ text_place l.func.content l.number 0;
  homes : AreHomes l.func.content l.place l.homes.items;
}
