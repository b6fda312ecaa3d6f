-- The plan that compacts is a plan.
use Rattle.std.proofs.Common.{◌≡◌, refl, ap, sym, subst, ◌∙◌, ℕ, zero, suc, ◌+◌, ◌*◌, ◌<◌, ◌≤◌, ◌^◌, Bool, true, false, List, [], ◌∷◌, ◌++◌, length, get_or, cond, Some, arith, inl, inr}
use Rattle.std.specs.Prelude.{◌⊎◌, slice_get}
use Rattle.std.specs.List.{All, AllPairs, sum_by}
use Rattle.std.proofs.lemmas.List.Elements.{All-append, All-cons, All-filter, All-from_get_or, All-get_or, All-nil, All-tail, All-head, filter_passes}
use Rattle.std.proofs.lemmas.List.Kept.{AllPairs-cons, AllPairs-filter}
use Rattle.std.proofs.lemmas.List.Sums.{sum_by-cons}
use Rattle.std.proofs.lemmas.Option.{slice_get-get_or, slice_get_within, get_or_from_slice_get}
use Rattle.move_plan.specs.declared.plan_lines.PlanLine.{PlanLine}
use Rattle.move_plan.specs.declared.plan_lines.PlanLine.TheVariants.{Every, Move, Flip, Go}
use Rattle.move_plan.specs.PlanLines.{IsInRange}
use Rattle.move_plan.specs.Plans.{event_of, IsPlan}
use Rattle.made_objects.specs.declared.makes.Made.{Made}
use Rattle.compact_plan.specs.Compacting.{compacted, front_lines, is_front, is_later, later_lines, packed, packing, stands_before}
use Rattle.made_objects.specs.Packed.{IsWhole}
use Rattle.compact_plan.specs.Promises.{CompactedIsPlan, IsEvent}
use Rattle.compact_plan.proofs.LineLaws.{front_within, later_behind, le_or_lt}
use Rattle.std.proofs.lemmas.Bool.{cases_order}

-- a line may stand behind another
pub record Follows (one other : PlanLine) : Type 0 where
  pub rises : event_of one ≤ event_of other
  pub not_every : (period : ℕ) → other ≡ Every period → ⊥
  pub one_go : (event task another : ℕ) → one ≡ Go event task → other ≡ Go event another → ⊥

-- ---- lists of which each two elements go together

all_pairs_tail : {X : Type 0} (R : X → X → Type 0) (x : X) (xs : List X) → AllPairs R (x ∷ xs) → AllPairs R xs
all_pairs_tail R x xs all i j d before within = all (suc i) (suc j) d (omega (arith, before)) (omega (arith, within))

all_pairs_head : {X : Type 0} (R : X → X → Type 0) (x : X) (xs : List X) → AllPairs R (x ∷ xs) → All (R x) xs
all_pairs_head R x xs all = All-from_get_or (R x) xs x (λ k within. all zero (suc k) x (omega arith) (omega (arith, within)))

pub all_pairs_append : {X : Type 0} (R : X → X → Type 0) (xs ys : List X) → AllPairs R xs → AllPairs R ys → All (λ x. All (R x) ys) xs → AllPairs R (xs ++ ys)
all_pairs_append R [] ys first second across = second
all_pairs_append R (x ∷ xs) ys first second across =
    AllPairs-cons R x (xs ++ ys) (All-append (R x) xs ys (all_pairs_head R x xs first) (All-head (λ x. All (R x) ys) x xs across))
    (all_pairs_append R xs ys (all_pairs_tail R x xs first) second (All-tail (λ x. All (R x) ys) x xs across))

up_or : (i j : ℕ) → i ≤ j → (i ≡ j) ⊎ (i < j)
up_or i j up = elim (le_or_lt j i) [ inl back ↦ inl (omega (arith, up, back)) | inr less ↦ inr less ]

-- ---- a plan by pairs of its lines

pub plan_follows : (plan : List PlanLine) → IsPlan plan → AllPairs Follows plan
plan_follows plan is i j d before within =
    let first : i < length plan = omega (arith, before, within) in
    let at_first : slice_get plan i ≡ Some (get_or plan i d) = slice_get-get_or plan i d first in
    let at_second : slice_get plan j ≡ Some (get_or plan j d) = slice_get-get_or plan j d within in
    record {
      rises = is.rises i j d (omega (arith, before)) within;
      not_every = λ period e. (let start : j ≡ 0 = is.every_first j period (at_second ∙ ap Some e) in omega (arith, start, before));
      one_go = λ event task another e f. (let same : i ≡ j = is.one_go i j event task another (at_first ∙ ap Some e) (at_second ∙ ap Some f) in omega (arith, same, before));
    }

rises_from : (plan : List PlanLine) → AllPairs Follows plan → (i j : ℕ) (d : PlanLine) → i ≤ j → j < length plan → (i ≡ j) ⊎ (i < j)
    → event_of (get_or plan i d) ≤ event_of (get_or plan j d)
rises_from plan pairs i j d before within (inl same) = rw same (omega arith)
rises_from plan pairs i j d before within (inr less) = (pairs i j d less within).rises

line_is : (plan : List PlanLine) (k : ℕ) (line d : PlanLine) → slice_get plan k ≡ Some line → get_or plan k d ≡ line
line_is plan k line d at = get_or_from_slice_get plan k line d at

every_from : (plan : List PlanLine) → AllPairs Follows plan → (place period : ℕ) → slice_get plan place ≡ Some (Every period) → place ≡ 0
every_from plan pairs zero period at = refl
every_from plan pairs (suc place) period at =
    let within : suc place < length plan = slice_get_within plan (suc place) (Every period) at in
    absurd ((pairs 0 (suc place) (Every period) (omega arith) within).not_every period (line_is plan (suc place) (Every period) (Every period) at))

go_from : (plan : List PlanLine) → AllPairs Follows plan → (place other event task another : ℕ) → slice_get plan place ≡ Some (Go event task)
    → slice_get plan other ≡ Some (Go event another) → (place ≡ other) ⊎ ((place < other) ⊎ (other < place)) → place ≡ other
go_from plan pairs place other event task another at there (inl same) = same
go_from plan pairs place other event task another at there (inr (inl less)) =
    absurd ((pairs place other (Go event task) less (slice_get_within plan other (Go event another) there)).one_go event task another
    (line_is plan place (Go event task) (Go event task) at) (line_is plan other (Go event another) (Go event task) there))
go_from plan pairs place other event task another at there (inr (inr more)) =
    absurd ((pairs other place (Go event task) more (slice_get_within plan place (Go event task) at)).one_go event another task
    (line_is plan other (Go event another) (Go event task) there) (line_is plan place (Go event task) (Go event task) at))

-- ---- the moves that pack

pub record IsMoveAt (event : ℕ) (line : PlanLine) : Type 0 where
  pub obj : ℕ
  pub to : ℕ
  pub is : line ≡ Move event obj to
  pub obj_fits : obj < 2 ^ 64
  pub to_fits : to < 2 ^ 64

count_in : (made : List Made) → All IsWhole made → 8 * length made ≤ sum_by (λ one. one.footprint) made
count_in [] whole = omega arith
count_in (one ∷ rest) whole =
    let more = count_in rest (All-tail IsWhole one rest whole) in
    let some : 8 ≤ one.footprint = (All-head IsWhole one rest whole).some in
    let sum = sum_by-cons (λ (m : Made). m.footprint) one rest in
    omega (arith, more, some, sum)

move_step : (event number to : ℕ) (one : Made) (rest : List Made) (b : Bool) → number < 2 ^ 64 → to < 2 ^ 64
    → All (IsMoveAt event) (packed event (number + 1) (to + one.footprint) rest) → All (IsMoveAt event) (packed event (number + 1) to rest)
    → All (IsMoveAt event) (cond b (Move event number to ∷ packed event (number + 1) (to + one.footprint) rest) (packed event (number + 1) to rest))
move_step event number to one rest true low near kept left =
    All-cons (IsMoveAt event) (Move event number to) (packed event (number + 1) (to + one.footprint) rest) (record { obj = number; to = to; is = refl; obj_fits = low; to_fits = near }) kept
move_step event number to one rest false low near kept left = left

pub are_moves : (event number to : ℕ) (made : List Made) → number + length made < 2 ^ 64 → to + sum_by (λ one. one.footprint) made < 2 ^ 64
    → All (IsMoveAt event) (packed event number to made)
are_moves event number to [] low near = All-nil (IsMoveAt event)
are_moves event number to (one ∷ rest) low near =
    let sum = sum_by-cons (λ (m : Made). m.footprint) one rest in
    move_step event number to one rest (stands_before event one) (omega (arith, low)) (omega (arith, near))
    (are_moves event (number + 1) (to + one.footprint) rest (omega (arith, low)) (omega (arith, near, sum)))
    (are_moves event (number + 1) to rest (omega (arith, low)) (omega (arith, near, sum)))

not_go : (event obj to at task : ℕ) → Move event obj to ≡ Go at task → ⊥
not_go event obj to at task e = cc

not_every : (event obj to period : ℕ) → Move event obj to ≡ Every period → ⊥
not_every event obj to period e = cc

move_follows : (event : ℕ) (one other : PlanLine) → event_of one ≤ event → IsMoveAt event other → Follows one other
move_follows event one other within move = record {
  rises = rw move.is within;
  not_every = λ period e. not_every event move.obj move.to period (sym move.is ∙ e);
  one_go = λ at task another e f. not_go event move.obj move.to at another (sym move.is ∙ f);
}

moves_follow : (event : ℕ) (lines : List PlanLine) → All (IsMoveAt event) lines → AllPairs Follows lines
moves_follow event lines all i j d before within =
    let one = All-get_or (IsMoveAt event) lines i d (omega (arith, before, within)) all in
    let at : event_of (get_or lines i d) ≤ event = rw one.is (omega arith) in
    move_follows event (get_or lines i d) (get_or lines j d) at (All-get_or (IsMoveAt event) lines j d within all)

later_follows : (event : ℕ) (one other : PlanLine) → event_of one ≤ event → event < event_of other → Follows one other
later_follows event one other within after = record {
  rises = omega (arith, within, after);
  not_every = λ period e. (let start : event_of other ≡ 0 = ap event_of e in omega (arith, start, after));
  one_go = λ at task another e f.
      (let here : event_of one ≡ at = ap event_of e in let there : event_of other ≡ at = ap event_of f in omega (arith, here, there, within, after));
}

-- ---- together

in_range : (event : ℕ) (line : PlanLine) → IsEvent event → IsMoveAt event line → IsInRange line
in_range event line is move = subst IsInRange (sym move.is) (is, move.obj_fits, move.to_fits)

pub compacted_is_plan : CompactedIsPlan
compacted_is_plan plan made event is packs numbered few =
    let front = front_lines plan event in
    let moves = packing made event in
    let later = later_lines plan event in
    let pairs = plan_follows plan is in
    let count = count_in made packs.whole in
    let sum : sum_by (λ (m : Made). m.footprint) made ≤ 67108864 = packs.within in
    let are : All (IsMoveAt event) moves = are_moves event 1 1099511627776 made (omega (arith, count, sum)) (omega (arith, sum)) in
    let fronts : All (λ line. event_of line ≤ event) front = All-from_get_or (λ line. event_of line ≤ event) front (Flip 0)
    (λ k within. front_within event (get_or front k (Flip 0)) (All-get_or (λ line. is_front event line ≡ true) front k (Flip 0) within (filter_passes (is_front event) plan))) in
    let laters : All (λ line. event < event_of line) later = All-from_get_or (λ line. event < event_of line) later (Flip 0)
    (λ k within. later_behind event (get_or later k (Flip 0)) (All-get_or (λ line. is_later event line ≡ true) later k (Flip 0) within (filter_passes (is_later event) plan))) in
    let moved : All (λ line. event_of line ≤ event) moves = All-from_get_or (λ line. event_of line ≤ event) moves (Flip 0)
    (λ k within. (let one = All-get_or (IsMoveAt event) moves k (Flip 0) within are in rw one.is (omega arith))) in
    let first : AllPairs Follows (front ++ moves) = all_pairs_append Follows front moves (AllPairs-filter Follows (is_front event) plan pairs) (moves_follow event moves are)
    (All-from_get_or (λ x. All (Follows x) moves) front (Flip 0) (λ k within.
    All-from_get_or (Follows (get_or front k (Flip 0))) moves (Flip 0) (λ j inside.
    move_follows event (get_or front k (Flip 0)) (get_or moves j (Flip 0))
    (All-get_or (λ line. event_of line ≤ event) front k (Flip 0) within fronts) (All-get_or (IsMoveAt event) moves j (Flip 0) inside are)))) in
    let up_to : All (λ line. event_of line ≤ event) (front ++ moves) = All-append (λ line. event_of line ≤ event) front moves fronts moved in
    let all : AllPairs Follows (compacted plan made event) = all_pairs_append Follows (front ++ moves) later first (AllPairs-filter Follows (is_later event) plan pairs)
    (All-from_get_or (λ x. All (Follows x) later) (front ++ moves) (Flip 0) (λ k within.
    All-from_get_or (Follows (get_or (front ++ moves) k (Flip 0))) later (Flip 0) (λ j inside.
    later_follows event (get_or (front ++ moves) k (Flip 0)) (get_or later j (Flip 0))
    (All-get_or (λ line. event_of line ≤ event) (front ++ moves) k (Flip 0) within up_to) (All-get_or (λ line. event < event_of line) later j (Flip 0) inside laters)))) in
    record {
      in_range = All-append IsInRange (front ++ moves) later
          (All-append IsInRange front moves (All-filter (is_front event) IsInRange plan is.in_range)
          (All-from_get_or IsInRange moves (Flip 0) (λ k within. in_range event (get_or moves k (Flip 0)) numbered (All-get_or (IsMoveAt event) moves k (Flip 0) within are))))
          (All-filter (is_later event) IsInRange plan is.in_range);
      rises = λ i j d before within. rises_from (compacted plan made event) all i j d before within (up_or i j before);
      every_first = every_from (compacted plan made event) all;
      one_go = λ place other at task another here there. go_from (compacted plan made event) all place other at task another here there (cases_order place other);
      few = few;
    }
