use Rattle.std.proofs.Common.{refl, ap, List, take}
use Rattle.std.specs.List.{flat_map}
use Rattle.std.proofs.lemmas.List.{take_all}
use Rattle.ir_ast.specs.Insts.{Instruction}
use Rattle.ssa_rebuild.specs.Rows.{phi_entries}
use Rattle.ssa_rebuild.specs.Arrivals.{phi_numbers}
use Rattle.ssa_rebuild.proofs.RowLemmas.{flat_more}
use Rattle.ssa_rebuild.proofs.TakeLemmas.{takes_none, takes_both, takes_same}
use Rattle.ssa_rebuild.proofs.arrivals.take_phis.Goals as goal
use Rattle.list_laws.proofs.Places.{take_item}

pub loop-inst-init : goal.loop-inst-init
loop-inst-init c = takes_none c.args.rows.now c.args.arrivals.now _ _ (λ p. refl) (λ here. refl)

pub loop-inst-preserved : goal.loop-inst-preserved
loop-inst-preserved c =
    let i = c.loop-inst.inst-index in
    let insts = c.args.insts.now in
    let more = take_item insts i c.inst-item.result c.loop-inst-test.true c.inst-item.is in
    takes_both c.args.rows.now c.args.arrivals.now c.loop-inst.arrivals c.take_phi.new.arrivals _ _ _ _ _ _ c.loop-inst.invariant c.in_ok-take_phi.ensures
    (λ p. flat_more (phi_entries p) (take i insts) _ c.inst-item.result more) (λ here. flat_more (phi_numbers here) (take i insts) _ c.inst-item.result more)

pub returns : goal.returns
returns c =
    let all = take_all c.loop-inst.inst-index c.args.insts.now c.loop-inst-test.false in
    takes_same c.args.rows.now c.args.arrivals.now c.loop-inst.arrivals _ _ _ _
    (λ p. ap (λ (is : List Instruction). flat_map (phi_entries p) is) all) (λ here. ap (λ (is : List Instruction). flat_map (phi_numbers here) is) all) c.loop-inst.invariant
