use Rattle.std.proofs.Common.{◌≡◌, ◌∙◌, List, sym, ap, subst, slice_get, length, refl, arith}
use Rattle.std.proofs.lemmas.Option.{slice_get_read}
use Rattle.ir_ast.specs.Blocks.{BasicBlock}
use Rattle.ir_cfg.specs.DefiniteUses.{text_place}
use Rattle.place_facts.specs.declared.spots.Spot.{Spot}
use Rattle.place_facts.specs.Spots.{AreSpots}
use Rattle.place_facts.proofs.SpotLemmas.{no_spots, spots_all}
use Rattle.place_facts.proofs.spots.spots.Goals as goal

pub loop-number-init : goal.loop-number-init
loop-number-init c =
    let func = c.args.func.now.content in
    subst (λ (spots : List Spot). AreSpots func (text_place func 0 0) spots) (sym c.new-spots.ensures.items) (no_spots func (text_place func 0 0) refl)

pub add_block-requires-clause-block : goal.add_block-requires-clause-block
add_block-requires-clause-block c =
    ap (λ (blocks : List BasicBlock). slice_get blocks c.loop-number.number) (sym c.blocks-block-items.ensures.value)
    ∙ slice_get_read c.blocks-block-items.result.now (length c.blocks-block-items.result.now) c.loop-number.number c.block-item.result refl c.loop-number-test.true c.block-item.is

pub returns : goal.returns
returns c =
    let all : c.loop-number.number ≡ length c.args.func.now.content.blocks = omega (arith, ap length c.blocks-block-items.ensures.value, c.loop-number-test.false) in
    spots_all c.args.func.now.content c.loop-number.number c.loop-number.spots.items all c.loop-number.invariant
