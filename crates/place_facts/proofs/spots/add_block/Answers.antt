use Rattle.std.proofs.Common.{◌≡◌, ℕ, ◌+◌, List, sym, ap, subst, length, arith}
use Rattle.list_laws.proofs.Places.{get_some}
use Rattle.ir_cfg.specs.DefiniteUses.{text_place}
use Rattle.definite_assign.proofs.TextLemmas.{text_next}
use Rattle.place_facts.specs.declared.spots.Spot.{Spot}
use Rattle.place_facts.specs.Spots.{AreSpots}
use Rattle.place_facts.proofs.SpotLemmas.{spots_more}
use Rattle.place_facts.proofs.spots.add_block.Goals as goal

pub loop-place-preserved : goal.loop-place-preserved
loop-place-preserved c =
    let func = c.args.func.now.content in
    let block = c.args.block.now in
    let inst = get_some block.insts c.loop-place.place (omega (arith, c.loop-place-test.true, ap length c.insts-place-end.ensures.value)) in
    subst (λ (spots : List Spot). AreSpots func (text_place func c.args.number (c.loop-place.place + 1)) spots) (sym c.in_ok-push.ensures.items)
    (spots_more func c.args.number c.loop-place.place inst.0 c.loop-place.spots.items (record { block = block; in_function = c.requires.block; in_block = inst.1 }) c.loop-place.invariant)

pub returns : goal.returns
returns c =
    let func = c.args.func.now.content in
    let all : c.loop-place.place ≡ length c.args.block.now.insts = omega (arith, c.loop-place-test.false, ap length c.insts-place-end.ensures.value) in
    let next : text_place func c.args.number c.loop-place.place ≡ text_place func (c.args.number + 1) 0 =
    omega (arith, all, text_next func c.args.number c.args.block.now c.requires.block) in
    subst (λ (n : ℕ). AreSpots func n c.loop-place.spots.items) next c.loop-place.invariant
