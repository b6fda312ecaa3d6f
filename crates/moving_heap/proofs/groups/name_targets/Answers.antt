use Rattle.std.proofs.Common.{◌≡◌, ℕ, ◌+◌, ◌-◌, ◌<◌, Option, None, Some, get_or, refl, sym, ap, ◌∙◌, take, length, List, arith}
use Rattle.std.specs.Option.{is_some}
use Rattle.std.proofs.lemmas.List.{length-set, take_all, length-map}
use Rattle.move_plan.specs.declared.plan_lines.Move.{Move}
use Rattle.moving_heap.specs.declared.stands.Moved.{Moved}
use Rattle.moving_heap.specs.Places.{line_target}
use Rattle.moving_heap.specs.Orders.{targets_in, target_in, resting, nowhere}
use Rattle.moving_heap.proofs.LineLemmas.{twice, named_more, differ_more, exist_more, named_all, unnamed_here, first_line}
use Rattle.moving_heap.proofs.GroupLemmas.{unnamed_lines, not_to_zero, unfit_line, target_at, some_target, no_target, none_at, targets_set, targets_resting, olds_set}
use Rattle.moving_heap.proofs.groups.name_targets.Goals as goal

abbrev empty : Move
empty = record { obj = 0; to = 0 }

abbrev unmoved : Moved
unmoved = record { old = 0; new = 0 }

pub loop-line-init : goal.loop-line-init
loop-line-init c = record {
  named = λ k l. ap (λ (t : List (Option ℕ)). get_or t k None) (ap targets_in c.requires.resting ∙ targets_resting c.args.stands.now) ∙ none_at (length c.args.stands.now) k;
  exist = refl;
  differ = refl;
  same = ap length c.requires.resting ∙ length-map c.args.stands.now resting;
  olds = refl;
}

pub returns-then-targets-place-ne0-clause-refused : goal.returns-then-targets-place-ne0-clause-refused
returns-then-targets-place-ne0-clause-refused c =
    let line = get_or c.args.lines.now c.loop-line.line-index empty in
    let place : (line.obj - 1) + 1 ≡ line.obj = omega arith in
    let inside : line.obj - 1 < length c.args.stands.now = omega arith in
    let here : line.obj - 1 < length c.loop-line.targets = omega (arith, c.loop-line.invariant.same) in
    let move = get_or c.loop-line.targets (line.obj - 1) unmoved in
    let named = c.loop-line.invariant.named (line.obj - 1) inside in
    let some = ap is_some (target_at c.loop-line.targets (line.obj - 1) unmoved here ∙ some_target move c.if-targets-place-ne0.true) in
    λ e event. unnamed_lines c.args.stands.now c.args.lines.now event
    (sym (twice c.args.stands.now c.args.lines.now c.loop-line.line-index empty (get_or (targets_in c.loop-line.targets) (line.obj - 1) None) c.loop-line-test.true
    (ap (line_target (take c.loop-line.line-index c.args.lines.now)) (sym place) ∙ sym named) some))

pub returns-then-line-eq0-2-clause-refused : goal.returns-then-line-eq0-2-clause-refused
returns-then-line-eq0-2-clause-refused c =
    let line = get_or c.args.lines.now c.loop-line.line-index empty in
    let place : line.obj ≡ (line.obj - 1) + 1 = omega arith in
    let inside : line.obj - 1 < length c.args.stands.now = omega arith in
    let here : line.obj - 1 < length c.loop-line.targets = omega (arith, c.loop-line.invariant.same) in
    let move = get_or c.loop-line.targets (line.obj - 1) unmoved in
    let none = sym (c.loop-line.invariant.named (line.obj - 1) inside) ∙ target_at c.loop-line.targets (line.obj - 1) unmoved here ∙ no_target move c.if-targets-place-ne0.false in
    let first = first_line c.args.lines.now c.loop-line.line-index ((line.obj - 1) + 1) empty c.loop-line-test.true none place in
    λ e event. unfit_line c.args.stands.now c.args.lines.now event (line.obj - 1) 0 c.requires.numbered inside (first ∙ ap (λ (to : ℕ). Some to) c.if-line-eq0-2.true)
    (not_to_zero (get_or c.args.stands.now (line.obj - 1) nowhere))

pub loop-line-preserved : goal.loop-line-preserved
loop-line-preserved c =
    let line = get_or c.args.lines.now c.loop-line.line-index empty in
    let place : (line.obj - 1) + 1 ≡ line.obj = omega arith in
    let inside : line.obj - 1 < length c.args.stands.now = omega arith in
    let here : line.obj - 1 < length c.loop-line.targets = omega (arith, c.loop-line.invariant.same) in
    let move = get_or c.loop-line.targets (line.obj - 1) unmoved in
    let size = length-map c.loop-line.targets target_in ∙ c.loop-line.invariant.same in
    let free = ap is_some (target_at c.loop-line.targets (line.obj - 1) unmoved here ∙ no_target move c.if-targets-place-ne0.false) in
    let named = c.loop-line.invariant.named (line.obj - 1) inside in
    record {
      named = λ k l. ap (λ (t : List (Option ℕ)). get_or t k None) (targets_set c.loop-line.targets (line.obj - 1) line.to unmoved here c.if-line-eq0-2.false)
          ∙ named_more c.args.lines.now (targets_in c.loop-line.targets) (length c.args.stands.now) c.loop-line.line-index (line.obj - 1) line empty c.loop-line-test.true refl
          size place inside free c.loop-line.invariant.named k l;
      exist = exist_more c.args.stands.now c.args.lines.now c.loop-line.line-index line empty c.loop-line-test.true refl c.loop-line.invariant.exist (omega arith) (omega (arith, c.len.ensures, c.if-line-len.false));
      differ = differ_more c.args.lines.now c.loop-line.line-index line empty c.loop-line-test.true refl c.loop-line.invariant.differ
          (unnamed_here c.args.lines.now (targets_in c.loop-line.targets) c.loop-line.line-index (line.obj - 1) line place free named);
      same = length-set c.loop-line.targets (line.obj - 1) _ ∙ c.loop-line.invariant.same;
      olds = olds_set c.loop-line.targets (line.obj - 1) line.to unmoved here ∙ c.loop-line.invariant.olds;
    }

pub returns-clause-named : goal.returns-clause-named
returns-clause-named c =
    let all = take_all c.loop-line.line-index c.args.lines.now c.loop-line-test.false in
    let size = length-map c.loop-line.targets target_in ∙ c.loop-line.invariant.same in
    λ yes. named_all c.args.stands.now c.args.lines.now (targets_in c.loop-line.targets) c.requires.numbered size
    (λ k h. c.loop-line.invariant.named k h ∙ ap (λ lines. line_target lines (k + 1)) all)
