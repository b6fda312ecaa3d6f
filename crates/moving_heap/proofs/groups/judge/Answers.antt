use Rattle.std.proofs.Common.{◌≡◌, ℕ, ◌<◌, true, false, ◌&&◌, List, Option, map, sym, ap, ◌∙◌, subst, arith, length}
use Rattle.std.proofs.lemmas.List.{length-map}
use Rattle.std.proofs.lemmas.List.Sorted.{All-permutation, length_permutation}
use Rattle.std.proofs.lemmas.Bool.{and_left, and_right}
use Rattle.moving_heap.specs.declared.stands.Stand.{Stand}
use Rattle.moving_heap.specs.declared.stands.Moved.{Moved}
use Rattle.moving_heap.specs.declared.stands.Verdict.TheVariants.{Legal, Illegal}
use Rattle.moving_heap.specs.Places.{no_lines, moves_none, verdict_of, flipped_at, group_targets}
use Rattle.moving_heap.specs.Orders.{targets_in, ranks, then_ranks, resting}
use Rattle.moving_heap.proofs.PlaceLemmas.{moved_sizes, apart_permutation, settled_moved, next_same}
use Rattle.moving_heap.proofs.RowLemmas.{land_high, ranked_moved}
use Rattle.moving_heap.proofs.GroupLemmas.{olds_resting}
use Rattle.moving_heap.proofs.VerdictLemmas.{legal_verdict, not_empty, no_lines_count}
use Rattle.moving_heap.proofs.groups.judge.Goals as goal
use Rattle.moving_heap.proofs.groups.judge.Goals.{else-is_empty-via-then-is_empty+else-moves_none, else-is_empty-via-else-is_empty}

pub returns-then-not-name_targets-clause-answer : goal.returns-then-not-name_targets-clause-answer
returns-then-not-name_targets-clause-answer c =
    let targets = group_targets c.args.stands.now c.args.lines.now c.args.event in
    not_empty c.args.stands.now c.args.lines.now targets false (and_left (no_lines c.args.lines.now) (moves_none targets) (c.name_targets.ensures.lines c.if-not-name_targets.true))
    (c.name_targets.ensures.refused c.if-not-name_targets.true c.args.event)

pub flip_at-requires-clause-same : goal.flip_at-requires-clause-same
flip_at-requires-clause-same c =
    let olds = ap length c.name_targets.ensures.olds in
    let before = length-map c.args.targets.now (λ (move : Moved). move.old) in
    let after = length-map c.name_targets.new.targets (λ (move : Moved). move.old) in
    let rests = ap length c.requires.resting ∙ length-map c.args.stands.now resting in omega arith

pub all_fit-requires : goal.all_fit-requires
all_fit-requires c =
    let olds = ap length (c.flip_at.ensures.olds ∙ c.name_targets.ensures.olds) in
    let before = length-map c.args.targets.now (λ (move : Moved). move.old) in
    let after = length-map c.flip_at.new.targets (λ (move : Moved). move.old) in
    let rests = ap length c.requires.resting ∙ length-map c.args.stands.now resting in omega arith

pub arrange-requires-clause-high : goal.arrange-requires-clause-high
arrange-requires-clause-high c =
    land_high c.args.stands.now (targets_in c.flip_at.new.targets) c.args.order.now c.requires.settled c.requires.ranked (sym c.all_fit.ensures ∙ c.if-not-all_fit.false)

pub arrange-requires-clause-next_room : goal.arrange-requires-clause-next_room
arrange-requires-clause-next_room c =
    let size = length_permutation c.args.stands.now (ranks c.args.stands.now c.args.order.now) c.requires.ranked.order.same in omega (arith, c.requires.next_room)

pub arrange-requires-clause-leaving_room : goal.arrange-requires-clause-leaving_room
arrange-requires-clause-leaving_room c =
    let size = length_permutation c.args.stands.now (ranks c.args.stands.now c.args.order.now) c.requires.ranked.order.same in omega (arith, c.requires.leaving_room)

pub is_apart-requires-clause-sizes : goal.is_apart-requires-clause-sizes
is_apart-requires-clause-sizes c =
    let targets = targets_in c.flip_at.new.targets in
    let next = then_ranks c.args.stands.now (targets_in c.flip_at.new.targets) c.arrange.new.next in
    All-permutation (λ (stand : Stand). 0 < stand.size) _ next (next_same c.args.stands.now (ranks c.args.stands.now c.args.order.now) next targets c.requires.settled c.requires.ranked.order c.arrange.ensures.same)
    (moved_sizes c.args.stands.now targets c.requires.settled)

pub returns-then-is_apart-clause-answer : goal.returns-then-is_apart-clause-answer
returns-then-is_apart-clause-answer c =
    let targets = targets_in c.flip_at.new.targets in
    let next = then_ranks c.args.stands.now (targets_in c.flip_at.new.targets) c.arrange.new.next in
    let are = c.flip_at.ensures.targets ∙ ap (flipped_at c.args.event c.args.stands.now) (c.name_targets.ensures.named c.if-not-name_targets.false) in
    let same = next_same c.args.stands.now (ranks c.args.stands.now c.args.order.now) next targets c.requires.settled c.requires.ranked.order c.arrange.ensures.same in
    let apart_is = apart_permutation _ next same ∙ sym c.is_apart.ensures ∙ c.if-is_apart.true in
    let some : (no_lines c.args.lines.now && moves_none (targets_in c.flip_at.new.targets)) ≡ false =
    elim c.else-is_empty.branch [
      | else-is_empty-via-then-is_empty+else-moves_none w ↦ and_right (no_lines c.args.lines.now) (moves_none targets) (sym w.moves_none.ensures ∙ w.if-moves_none.false)
      | else-is_empty-via-else-is_empty w ↦ and_left (no_lines c.args.lines.now) (moves_none targets) (sym (no_lines_count c.args.lines.now) ∙ sym c.is_empty.ensures ∙ w.if-is_empty.false)
    ] in
    subst (λ (t : List (Option ℕ)). Legal ≡ verdict_of c.args.stands.now c.args.lines.now t) are
    (legal_verdict c.args.stands.now c.args.lines.now targets true some (c.name_targets.ensures.answer c.if-not-name_targets.false) (sym c.all_fit.ensures ∙ c.if-not-all_fit.false) apart_is)

pub returns-then-is_apart-clause-targets : goal.returns-then-is_apart-clause-targets
returns-then-is_apart-clause-targets c = λ legal. c.flip_at.ensures.targets ∙ ap (flipped_at c.args.event c.args.stands.now) (c.name_targets.ensures.named c.if-not-name_targets.false)

pub returns-then-is_apart-clause-olds : goal.returns-then-is_apart-clause-olds
returns-then-is_apart-clause-olds c = λ legal. c.flip_at.ensures.olds ∙ c.name_targets.ensures.olds ∙ ap (map (λ (move : Moved). move.old)) c.requires.resting ∙ olds_resting c.args.stands.now

pub returns-then-is_apart-clause-settled : goal.returns-then-is_apart-clause-settled
returns-then-is_apart-clause-settled c =
    let targets = targets_in c.flip_at.new.targets in
    let next = then_ranks c.args.stands.now (targets_in c.flip_at.new.targets) c.arrange.new.next in
    let same = next_same c.args.stands.now (ranks c.args.stands.now c.args.order.now) next targets c.requires.settled c.requires.ranked.order c.arrange.ensures.same in
    let apart_is = apart_permutation _ next same ∙ sym c.is_apart.ensures ∙ c.if-is_apart.true in
    λ legal. settled_moved c.args.stands.now targets c.requires.settled (sym c.all_fit.ensures ∙ c.if-not-all_fit.false) apart_is

pub returns-then-is_apart-clause-ranked : goal.returns-then-is_apart-clause-ranked
returns-then-is_apart-clause-ranked c =
    let targets = targets_in c.flip_at.new.targets in
    let next = then_ranks c.args.stands.now (targets_in c.flip_at.new.targets) c.arrange.new.next in
    let same = next_same c.args.stands.now (ranks c.args.stands.now c.args.order.now) next targets c.requires.settled c.requires.ranked.order c.arrange.ensures.same in
    let apart_is = apart_permutation _ next same ∙ sym c.is_apart.ensures ∙ c.if-is_apart.true in
    let settled = settled_moved c.args.stands.now targets c.requires.settled (sym c.all_fit.ensures ∙ c.if-not-all_fit.false) apart_is in
    λ legal. ranked_moved c.args.stands.now targets c.arrange.new.next c.requires.settled.numbered settled.numbered same c.arrange.ensures.sorted c.arrange.ensures.low c.arrange.ensures.high

pub returns-else-is_apart-clause-answer : goal.returns-else-is_apart-clause-answer
returns-else-is_apart-clause-answer c =
    let targets = targets_in c.flip_at.new.targets in
    let next = then_ranks c.args.stands.now (targets_in c.flip_at.new.targets) c.arrange.new.next in
    let are = c.flip_at.ensures.targets ∙ ap (flipped_at c.args.event c.args.stands.now) (c.name_targets.ensures.named c.if-not-name_targets.false) in
    let same = next_same c.args.stands.now (ranks c.args.stands.now c.args.order.now) next targets c.requires.settled c.requires.ranked.order c.arrange.ensures.same in
    let apart_is = apart_permutation _ next same ∙ sym c.is_apart.ensures ∙ c.if-is_apart.false in
    let some : (no_lines c.args.lines.now && moves_none (targets_in c.flip_at.new.targets)) ≡ false =
    elim c.else-is_empty.branch [
      | else-is_empty-via-then-is_empty+else-moves_none w ↦ and_right (no_lines c.args.lines.now) (moves_none targets) (sym w.moves_none.ensures ∙ w.if-moves_none.false)
      | else-is_empty-via-else-is_empty w ↦ and_left (no_lines c.args.lines.now) (moves_none targets) (sym (no_lines_count c.args.lines.now) ∙ sym c.is_empty.ensures ∙ w.if-is_empty.false)
    ] in
    subst (λ (t : List (Option ℕ)). Illegal ≡ verdict_of c.args.stands.now c.args.lines.now t) are
    (legal_verdict c.args.stands.now c.args.lines.now targets false some (c.name_targets.ensures.answer c.if-not-name_targets.false) (sym c.all_fit.ensures ∙ c.if-not-all_fit.false) apart_is)
