use Rattle.std.proofs.Common.{◌≡◌, ◌∙◌, ℕ, List, ◌++◌, map, take, drop, ap, sym, append_assoc}
use Rattle.ir_ast.specs.Insts.{Instruction}
use Rattle.list_laws.proofs.Places.{take_item, map_append}
use Rattle.thin_phis.specs.Thinned.{number_now}
use Rattle.thin_phis.specs.Runs.{entry_count, entries_over, behind_entries}
use Rattle.thin_phis.proofs.RunLemmas.{behind_entries_push, entries_push}
use Rattle.thin_phis.proofs.entries.push_own.Goals as goal

pub loop-inst-preserved : goal.loop-inst-preserved
loop-inst-preserved c =
    let insts = c.args.insts.now in
    let inst = c.inst-item.result in
    let front = take c.loop-inst.inst-index insts in
    let first = c.args.rest.now in
    let before = c.args.after.now.items in
    let f = number_now c.args.numbers.now in
    let grown = take_item insts c.loop-inst.inst-index inst c.loop-inst-test.true c.inst-item.is in
    let run : c.next_ones-taken.result.now ≡ take (entry_count inst) (behind_entries front first) =
    c.next_ones-taken.ensures.taken ∙ ap (λ (n : ℕ). take n c.loop-inst.rest) c.entry_count.ensures ∙ ap (take (entry_count inst)) c.loop-inst.invariant.rest in
    record {
      after = c.in_ok-push_all.ensures ∙ ap (λ (ns : List ℕ). ns ++ map f c.next_ones-taken.result.now) c.loop-inst.invariant.after
          ∙ ap (λ (ns : List ℕ). (before ++ map f (entries_over front first)) ++ map f ns) run
          ∙ append_assoc before (map f (entries_over front first)) (map f (take (entry_count inst) (behind_entries front first)))
          ∙ ap (λ (ns : List ℕ). before ++ ns) (sym (map_append f (entries_over front first) (take (entry_count inst) (behind_entries front first))))
          ∙ ap (λ (ns : List ℕ). before ++ map f ns) (sym (entries_push front inst first))
          ∙ ap (λ (is : List Instruction). before ++ map f (entries_over is first)) (sym grown);
      rest = c.next_ones-taken.ensures.rest ∙ ap (λ (n : ℕ). drop n c.loop-inst.rest) c.entry_count.ensures ∙ ap (drop (entry_count inst)) c.loop-inst.invariant.rest
          ∙ sym (behind_entries_push front inst first) ∙ ap (λ (is : List Instruction). behind_entries is first) (sym grown);
    }
