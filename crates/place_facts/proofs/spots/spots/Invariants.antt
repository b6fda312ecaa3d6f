use Rattle.ir_cfg.specs.DefiniteUses.{text_place}
use Rattle.place_facts.specs.Spots.{AreSpots}
use Rattle.place_facts.proofs.spots.spots.Given as goal

abbrev pub invariant-loop-number : goal.invariant-loop-number
invariant-loop-number l = AreSpots l.func.content (text_place l.func.content l.number 0) l.spots.items
