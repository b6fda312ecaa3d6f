use Rattle.std.proofs.Common.{◌≡◌, ◌∙◌, ℕ, ◌+◌, List, [], ◌∷◌, ◌++◌, map, take, drop, ap, sym, append_assoc}
use Rattle.std.specs.List.{flat_map}
use Rattle.list_laws.proofs.Places.{take_item, map_append}
use Rattle.phi_webs.specs.Webs.{Phi}
use Rattle.ssa_rebuild.specs.Answers.{number_of}
use Rattle.thin_phis.specs.Runs.{phis_over, behind_phis, phi_left}
use Rattle.thin_phis.proofs.RunLemmas.{behind_push, kept_push}
use Rattle.thin_phis.proofs.entries.push_inserted.Goals as goal

abbrev made : ℕ → List ℕ → Phi ℕ
made name operands = record { name = name; operands = operands }

pub loop-slot-preserved : goal.loop-slot-preserved
loop-slot-preserved c =
    let slots = c.args.slots.now in
    let slot = c.slot-item.result in
    let width = c.args.width in
    let first = c.args.rest.now in
    let before = c.args.after.now.items in
    let ends = c.args.numbers.now in
    let front = map number_of (take c.loop-slot.slot-index slots) in
    let grown : map number_of (take (c.loop-slot.slot-index + 1) slots) ≡ front ++ number_of slot ∷ [] =
    ap (map number_of) (take_item slots c.loop-slot.slot-index slot c.loop-slot-test.true c.slot-item.is) ∙ map_append number_of (take c.loop-slot.slot-index slots) (slot ∷ []) in
    let name : c.number_of.result ≡ number_of slot = c.number_of.ensures ∙ ap number_of c.slot.ensures in
    let run : c.next_ones-taken.result.now ≡ take width (behind_phis width front first) = c.next_ones-taken.ensures.taken ∙ ap (take width) c.loop-slot.invariant.rest in
    let kept = flat_map (phi_left ends) (phis_over width front first) in
    record {
      after = c.in_ok-push_phi.ensures ∙ ap (λ (ns : List ℕ). ns ++ phi_left ends (made c.number_of.result c.next_ones-taken.result.now)) c.loop-slot.invariant.after
          ∙ ap (λ (n : ℕ). (before ++ kept) ++ phi_left ends (made n c.next_ones-taken.result.now)) name
          ∙ ap (λ (ns : List ℕ). (before ++ kept) ++ phi_left ends (made (number_of slot) ns)) run
          ∙ append_assoc before kept (phi_left ends (made (number_of slot) (take width (behind_phis width front first))))
          ∙ ap (λ (ns : List ℕ). before ++ ns) (sym (kept_push ends width front (number_of slot) first))
          ∙ ap (λ (ns : List ℕ). before ++ flat_map (phi_left ends) (phis_over width ns first)) (sym grown);
      rest = c.next_ones-taken.ensures.rest ∙ ap (drop width) c.loop-slot.invariant.rest ∙ sym (behind_push width front (number_of slot) first)
          ∙ ap (λ (ns : List ℕ). behind_phis width ns first) (sym grown);
    }
