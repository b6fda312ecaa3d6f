use Rattle.std.proofs.Common.{◌∙◌, ℕ, List, take, drop, ap, sym}
use Rattle.ir_ast.specs.Insts.{Instruction}
use Rattle.list_laws.proofs.Places.{take_item}
use Rattle.thin_phis.specs.Runs.{entry_count, behind_entries}
use Rattle.thin_phis.proofs.RunLemmas.{behind_entries_push}
use Rattle.thin_phis.proofs.webs.skip_own.Goals as goal

pub loop-inst-preserved : goal.loop-inst-preserved
loop-inst-preserved c =
    let insts = c.args.insts.now in
    let inst = c.inst-item.result in
    let first = c.args.rest.now in
    let grown = take_item insts c.loop-inst.inst-index inst c.loop-inst-test.true c.inst-item.is in
    c.next_ones.ensures.rest ∙ ap (λ (n : ℕ). drop n c.loop-inst.rest) c.entry_count.ensures ∙ ap (drop (entry_count inst)) c.loop-inst.invariant
    ∙ sym (behind_entries_push (take c.loop-inst.inst-index insts) inst first) ∙ ap (λ (is : List Instruction). behind_entries is first) (sym grown)
