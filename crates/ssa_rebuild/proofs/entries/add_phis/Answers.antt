use Rattle.std.proofs.Common.{refl, ap, List, take}
use Rattle.std.specs.List.{flat_map}
use Rattle.std.proofs.lemmas.List.{take_all}
use Rattle.ir_ast.specs.Insts.{Instruction}
use Rattle.ssa_rebuild.specs.Rows.{phi_entries}
use Rattle.ssa_rebuild.proofs.RowLemmas.{grows_none, grows_both, grows_same, flat_more}
use Rattle.ssa_rebuild.proofs.entries.add_phis.Goals as goal
use Rattle.list_laws.proofs.Places.{take_item}

pub loop-inst-init : goal.loop-inst-init
loop-inst-init c = grows_none c.args.rows.now.items _ (λ p within. refl)

pub loop-inst-preserved : goal.loop-inst-preserved
loop-inst-preserved c =
    let i = c.loop-inst.inst-index in
    let insts = c.args.insts.now in
    grows_both c.args.rows.now.items c.loop-inst.rows.items c.add_phi.new.rows.items _ _ _ c.loop-inst.invariant c.in_ok-add_phi.ensures
    (λ p. flat_more (phi_entries p) (take i insts) _ c.inst-item.result (take_item insts i c.inst-item.result c.loop-inst-test.true c.inst-item.is))

pub returns : goal.returns
returns c = grows_same c.args.rows.now.items c.loop-inst.rows.items _ _
    (λ p. ap (λ (is : List Instruction). flat_map (phi_entries p) is) (take_all c.loop-inst.inst-index c.args.insts.now c.loop-inst-test.false)) c.loop-inst.invariant
