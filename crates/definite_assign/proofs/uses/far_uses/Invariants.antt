use Rattle.std.proofs.Common.{◌≡◌}
use Rattle.ir_cfg.specs.DefiniteUses.{text_place}
use Rattle.definite_assign.specs.FarUses.{AreFarUses}
use Rattle.definite_assign.proofs.uses.far_uses.Given as goal

abbrev pub invariant-loop-number : goal.invariant-loop-number
invariant-loop-number l = record {
  place : l.place ≡ text_place l.func.content l.number 0;
  uses : AreFarUses l.func.content l.place l.uses.items;
}
