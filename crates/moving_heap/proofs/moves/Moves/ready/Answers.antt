use Rattle.std.proofs.Common.{rules, ◌≡◌, ℕ, List, not, filter, length, refl, sym, ap, ◌∙◌, subst, arith}
use Rattle.std.specs.List.{range_with_len}
use Rattle.std.specs.List.Sorted.{IsNonDecreasingBy}
use Rattle.std.proofs.lemmas.List.{with_items_is, length-map}
use Rattle.std.proofs.lemmas.List.Elements.{filter_from_retain}
use Rattle.std.proofs.lemmas.List.Sorted.{IsNonDecreasingBy-from_sort_by_key}
use Rattle.moving_heap.specs.declared.stands.Stand.{Stand}
use Rattle.moving_heap.specs.declared.stands.Moved.{Moved}
use Rattle.moving_heap.specs.declared.stands.Verdict.TheVariants.{Legal}
use Rattle.moving_heap.specs.Places.{moves_of, group_moves}
use Rattle.moving_heap.specs.Orders.{resting, leaves, targets_in}
use Rattle.moving_heap.specs.Settled.{move_at}
use Rattle.moving_heap.proofs.FindLemmas.{moves-length}
use Rattle.moving_heap.proofs.PlaceLemmas.{count_within}
use Rattle.moving_heap.proofs.VerdictLemmas.{quiet_verdict, quiet_moves}
use Rattle.moving_heap.proofs.GroupLemmas.{kept_moves, are_sorted, legal_moves, due_is}
use Rattle.moving_heap.proofs.moves.Moves.ready.Goals as goal

pub returns-then-is_none-clause-answer : goal.returns-then-is_none-clause-answer
returns-then-is_none-clause-answer c = quiet_verdict c.args.stands.now c.args.lines.now c.args.event (sym c.is_empty.ensures ∙ c.if-is_empty.true) (c.is_none.ensures ∙ ap not c.if-is_none.true)

pub returns-then-is_none-clause-moves : goal.returns-then-is_none-clause-moves
returns-then-is_none-clause-moves c =
    let none = quiet_moves c.args.stands.now c.args.lines.now c.args.event (sym c.is_empty.ensures ∙ c.if-is_empty.true) (c.is_none.ensures ∙ ap not c.if-is_none.true) in
    rw (← none, ← c.self.view_is, c.clear.ensures.items) refl

pub number-requires-clause-small : goal.number-requires-clause-small
number-requires-clause-small c =
    let stands = c.args.stands.now in
    let moves = c.judge-verdict.new.targets in
    let legal : c.judge-verdict.result ≡ Legal = search rules in
    let olds = c.judge-verdict.ensures.olds legal in
    let left = length-map c.judge-verdict.new.targets (λ (m : Moved). m.old) in
    let right = length-map c.args.stands.now (λ (s : Stand). s.address) in
    let counted = ap length olds in
    let made = ap length c.rest.ensures.moves ∙ length-map c.args.stands.now resting in
    let same : length c.judge-verdict.new.targets ≡ length c.rest.new.list.items = omega arith in
    let items = with_items_is c.rest.new.list c.judge-verdict.new.targets (same ∙ sym (ap length c.as_mut_slice.ensures.value) ∙ c.as_mut_slice.ensures.len) in
    let kept : c.retain.new.self.items ≡ moves_of c.args.stands.now (targets_in c.judge-verdict.new.targets) =
    filter_from_retain _ leaves (λ p x b q k. search rules) _ _ _ c.retain.ensures.filtered ∙ ap (filter leaves) items ∙ kept_moves c.judge-verdict.new.targets c.args.stands.now olds in
    let size = ap length kept in
    let short = moves-length c.args.stands.now (targets_in c.judge-verdict.new.targets) in
    let few = count_within c.args.stands.now (λ k d l. (c.requires.settled.each k d l).size) in
    omega (arith, c.len.ensures, c.requires.settled.within)

pub invariant_of-self-2 : goal.invariant_of-self-2
invariant_of-self-2 c =
    let stands = c.args.stands.now in
    let moves = c.judge-verdict.new.targets in
    let legal : c.judge-verdict.result ≡ Legal = search rules in
    let olds = c.judge-verdict.ensures.olds legal in
    let left = length-map c.judge-verdict.new.targets (λ (m : Moved). m.old) in
    let right = length-map c.args.stands.now (λ (s : Stand). s.address) in
    let counted = ap length olds in
    let made = ap length c.rest.ensures.moves ∙ length-map c.args.stands.now resting in
    let same : length c.judge-verdict.new.targets ≡ length c.rest.new.list.items = omega arith in
    let items = with_items_is c.rest.new.list c.judge-verdict.new.targets (same ∙ sym (ap length c.as_mut_slice.ensures.value) ∙ c.as_mut_slice.ensures.len) in
    let kept : c.retain.new.self.items ≡ moves_of c.args.stands.now (targets_in c.judge-verdict.new.targets) =
    filter_from_retain _ leaves (λ p x b q k. search rules) _ _ _ c.retain.ensures.filtered ∙ ap (filter leaves) items ∙ kept_moves c.judge-verdict.new.targets c.args.stands.now olds in
    let rising = IsNonDecreasingBy-from_sort_by_key (λ (place : ℕ). (move_at c.as_slice-moves.result.now place).old) c.sort_unstable_by_key.new.self.items c.sort_unstable_by_key.ensures.sorted (λ a r q k. search rules) in
    let rises = subst (λ (l : List Moved). IsNonDecreasingBy (λ (place : ℕ). (move_at l place).old) c.sort_unstable_by_key.new.self.items) c.as_slice-moves.ensures.value rising in
    let many : c.len.result ≡ length c.retain.new.self.items = omega (arith, c.len.ensures) in (
      are_sorted c.retain.new.self.items stands (targets_in moves) c.number.new.places.items c.sort_unstable_by_key.new.self.items c.requires.settled kept (c.number.ensures.places ∙ ap (range_with_len 0) many)
          c.sort_unstable_by_key.ensures.permutation rises,
      omega (arith, c.retain.ensures.capacity, c.rest.ensures.capacity, c.clear.ensures.capacity, c.self.invariant.1),
      omega (arith, c.sort_unstable_by_key.ensures.capacity, c.number.ensures.capacity, c.clear-3.ensures.capacity, c.judge-verdict.ensures.leaving_room, c.clear-2.ensures.capacity, c.self.invariant.2),
    )

pub returns-clause-moves : goal.returns-clause-moves
returns-clause-moves c =
    let stands = c.args.stands.now in
    let moves = c.judge-verdict.new.targets in
    let legal : c.judge-verdict.result ≡ Legal = search rules in
    let olds = c.judge-verdict.ensures.olds legal in
    let left = length-map c.judge-verdict.new.targets (λ (m : Moved). m.old) in
    let right = length-map c.args.stands.now (λ (s : Stand). s.address) in
    let counted = ap length olds in
    let made = ap length c.rest.ensures.moves ∙ length-map c.args.stands.now resting in
    let same : length c.judge-verdict.new.targets ≡ length c.rest.new.list.items = omega arith in
    let items = with_items_is c.rest.new.list c.judge-verdict.new.targets (same ∙ sym (ap length c.as_mut_slice.ensures.value) ∙ c.as_mut_slice.ensures.len) in
    let kept : c.retain.new.self.items ≡ moves_of c.args.stands.now (targets_in c.judge-verdict.new.targets) =
    filter_from_retain _ leaves (λ p x b q k. search rules) _ _ _ c.retain.ensures.filtered ∙ ap (filter leaves) items ∙ kept_moves c.judge-verdict.new.targets c.args.stands.now olds in
    let all = kept ∙ legal_moves c.args.stands.now c.args.lines.now c.args.event (targets_in moves) (sym legal ∙ c.judge-verdict.ensures.answer) (c.judge-verdict.ensures.targets legal) in
    rw (← c.self.view_is, all) refl

pub returns-clause-due : goal.returns-clause-due
returns-clause-due c =
    λ legal. due_is c.args.stands.now c.judge-verdict.new.next (targets_in c.judge-verdict.new.targets) (group_moves c.args.stands.now c.args.lines.now c.args.event) c.requires.settled
    (sym (legal_moves c.args.stands.now c.args.lines.now c.args.event (targets_in c.judge-verdict.new.targets) (sym legal ∙ c.judge-verdict.ensures.answer) (c.judge-verdict.ensures.targets legal)))
    (c.judge-verdict.ensures.settled legal) (c.judge-verdict.ensures.ranked legal)
