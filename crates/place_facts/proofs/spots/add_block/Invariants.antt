use Rattle.ir_cfg.specs.DefiniteUses.{text_place}
use Rattle.place_facts.specs.Spots.{AreSpots}
use Rattle.place_facts.proofs.spots.add_block.Given as goal

abbrev pub invariant-loop-place : goal.invariant-loop-place
invariant-loop-place l = AreSpots l.func.content (text_place l.func.content l.number l.place) l.spots.items
