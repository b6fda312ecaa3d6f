-- What the plan that compacts says of tasks, of flips and of other events.
use Rattle.std.proofs.Common.{◌≡◌, ◌≢◌, refl, ap, sym, ◌∙◌, ℕ, ◌<◌, ◌≤◌, ◌+◌, Bool, true, false, ◌||◌, List, [], ◌∷◌, ◌++◌, cond, leb, Option, None, arith, inl, inr}
use Rattle.std.specs.Prelude.{◌⊎◌, not, filter, slice_get}
use Rattle.std.specs.List.{cons_option, filter_map, list_any}
use Rattle.std.specs.Option.{is_some}
use Rattle.std.proofs.lemmas.Bool.{cases_eq, le-leb, ltb-false, ltb-true, leb-true, ne_eqb, and_parts}
use Rattle.std.proofs.lemmas.Bool.Decides.{leb_tells}
use Rattle.std.proofs.lemmas.List.Elements.{filter_map-append}
use Rattle.std.proofs.lemmas.List.Folds.{list_any-append}
use Rattle.move_plan.specs.declared.plan_lines.PlanLine.{PlanLine}
use Rattle.move_plan.specs.declared.plan_lines.PlanLine.TheVariants.{Every, Move, Flip, Go}
use Rattle.move_plan.specs.Plans.{event_of, flips, flips_at, move_at, task_at}
use Rattle.made_objects.specs.declared.makes.Made.{Made}
use Rattle.compact_plan.specs.Compacting.{compacted, front_lines, is_front, is_later, later_lines, packed, packing, stands_before}
use Rattle.compact_plan.specs.Promises.{OthersStay}
use Rattle.list_laws.proofs.Booleans.{or_false}

pub le_or_lt : (a b : ℕ) → (a ≤ b) ⊎ (b < a)
le_or_lt a b = elim (leb_tells a b) [ inl low ↦ inl low.1 | inr high ↦ inr high.1 ]

-- ---- what a filter keeps

kept_step : {X Y : Type 0} (f : X → Option Y) (p : X → Bool) (x : X) (xs : List X) (b : Bool) → p x ≡ b → (p x ≡ false → f x ≡ None)
    → filter_map f (filter p xs) ≡ filter_map f xs → filter_map f (cond b (x ∷ filter p xs) (filter p xs)) ≡ filter_map f (x ∷ xs)
kept_step f p x xs true is none same = ap (cons_option (f x)) same
kept_step f p x xs false isnt none same = same ∙ sym (ap (λ o. cons_option o (filter_map f xs)) (none isnt))

kept_all : {X Y : Type 0} (f : X → Option Y) (p : X → Bool) → ((x : X) → p x ≡ false → f x ≡ None) → (xs : List X) → filter_map f (filter p xs) ≡ filter_map f xs
kept_all f p none [] = refl
kept_all f p none (x ∷ xs) = kept_step f p x xs (p x) refl (none x) (kept_all f p none xs)

none_step : {X Y : Type 0} (f : X → Option Y) (p : X → Bool) (x : X) (xs : List X) (b : Bool) → p x ≡ b → (p x ≡ true → f x ≡ None)
    → filter_map f (filter p xs) ≡ [] → filter_map f (cond b (x ∷ filter p xs) (filter p xs)) ≡ []
none_step f p x xs true is none same = ap (λ o. cons_option o (filter_map f (filter p xs))) (none is) ∙ same
none_step f p x xs false isnt none same = same

pub kept_none : {X Y : Type 0} (f : X → Option Y) (p : X → Bool) → ((x : X) → p x ≡ true → f x ≡ None) → (xs : List X) → filter_map f (filter p xs) ≡ []
kept_none f p none [] = refl
kept_none f p none (x ∷ xs) = none_step f p x xs (p x) refl (none x) (kept_none f p none xs)

-- ---- what lines say of an event

pub task_elsewhere : (at : ℕ) (line : PlanLine) → event_of line ≢ at → task_at at line ≡ None
task_elsewhere at (Every period) other = refl
task_elsewhere at (Move event obj to) other = refl
task_elsewhere at (Flip event) other = refl
task_elsewhere at (Go event task) other = rw (ne_eqb event at other) refl

pub move_elsewhere : (at : ℕ) (line : PlanLine) → event_of line ≢ at → move_at at line ≡ None
move_elsewhere at (Every period) other = refl
move_elsewhere at (Move event obj to) other = rw (ne_eqb event at other) refl
move_elsewhere at (Flip event) other = refl
move_elsewhere at (Go event task) other = refl

-- a line that isn't kept in front is behind the event, or a move of it
pub data Passed (event : ℕ) (line : PlanLine) : Type 0 where
  behind : event < event_of line → Passed event line
  moves : (obj to : ℕ) → line ≡ Move event obj to → Passed event line

passed_move : (event own obj to : ℕ) → is_front event (Move own obj to) ≡ false → own ≤ event → Passed event (Move own obj to)
passed_move event own obj to isnt within = elim (cases_eq own event) [
  | inl same ↦ moves obj to (ap (λ e. Move e obj to) same)
  | inr other ↦ absurd (no other)
]
  where
    no : own ≢ event → ⊥
    no other =
        let first : leb own event ≡ true = le-leb own event within in
        let none : move_at event (Move own obj to) ≡ None = rw (ne_eqb own event other) refl in
        let front : is_front event (Move own obj to) ≡ true = rw (first, ne_eqb own event other) refl in
        let both : true ≡ false = sym front ∙ isnt in cc

passed_other : (event : ℕ) (line : PlanLine) → move_at event line ≡ None → is_front event line ≡ false → event < event_of line
passed_other event line none isnt = elim (le_or_lt (event_of line) event) [
  | inl within ↦ absurd (let front : is_front event line ≡ true = rw (le-leb (event_of line) event within, none) refl in let both : true ≡ false = sym front ∙ isnt in cc)
  | inr after ↦ after
]

pub passed : (event : ℕ) (line : PlanLine) → is_front event line ≡ false → Passed event line
passed event (Every period) isnt = behind (passed_other event (Every period) refl isnt)
passed event (Move own obj to) isnt = elim (le_or_lt own event) [
  | inl within ↦ passed_move event own obj to isnt within
  | inr after ↦ behind after
]
passed event (Flip own) isnt = behind (passed_other event (Flip own) refl isnt)
passed event (Go own task) isnt = behind (passed_other event (Go own task) refl isnt)

pub front_within : (event : ℕ) (line : PlanLine) → is_front event line ≡ true → event_of line ≤ event
front_within event line is = leb-true (event_of line) event (and_parts (leb (event_of line) event) (not (is_some (move_at event line))) is).0

pub later_behind : (event : ℕ) (line : PlanLine) → is_later event line ≡ true → event < event_of line
later_behind event line is = ltb-true event (event_of line) is

not_later : (event : ℕ) (line : PlanLine) → is_later event line ≡ false → event_of line ≤ event
not_later event line isnt = ltb-false event (event_of line) isnt

-- ---- a question that only lines of its event answer, and no move of the event that is packed

pub record Asks {Y : Type 0} (f : PlanLine → Option Y) (at event : ℕ) : Type 0 where
  pub elsewhere : (line : PlanLine) → event_of line ≢ at → f line ≡ None
  pub moves : (obj to : ℕ) → f (Move event obj to) ≡ None

packed_silent : {Y : Type 0} (f : PlanLine → Option Y) (event : ℕ) → ((obj to : ℕ) → f (Move event obj to) ≡ None) → (number to : ℕ) (made : List Made)
    → filter_map f (packed event number to made) ≡ []
packed_silent f event none number to [] = refl
packed_silent f event none number to (one ∷ rest) =
    silent_step f event none number to one rest (stands_before event one)
    (packed_silent f event none (number + 1) (to + one.footprint) rest) (packed_silent f event none (number + 1) to rest)
  where
    silent_step : {Y : Type 0} (f : PlanLine → Option Y) (event : ℕ) → ((obj to : ℕ) → f (Move event obj to) ≡ None) → (number to : ℕ) (one : Made) (rest : List Made) (b : Bool)
        → filter_map f (packed event (number + 1) (to + one.footprint) rest) ≡ [] → filter_map f (packed event (number + 1) to rest) ≡ []
        → filter_map f (cond b (Move event number to ∷ packed event (number + 1) (to + one.footprint) rest) (packed event (number + 1) to rest)) ≡ []
    silent_step f event none number to one rest true kept left = ap (λ o. cons_option o (filter_map f (packed event (number + 1) (to + one.footprint) rest))) (none number to) ∙ kept
    silent_step f event none number to one rest false kept left = left

front_answers : {Y : Type 0} (f : PlanLine → Option Y) (at event : ℕ) → Asks f at event → at ≤ event → (line : PlanLine) → is_front event line ≡ false → f line ≡ None
front_answers f at event asks within line isnt = elim (passed event line isnt) [
  | behind after ↦ asks.elsewhere line (λ e. let no : ⊥ = omega (arith, e, after, within) in no)
  | moves obj to is ↦ ap f is ∙ asks.moves obj to
]

append_nil : {X : Type 0} (xs : List X) → xs ++ [] ≡ xs
append_nil [] = refl
append_nil (x ∷ xs) = ap (λ ys. x ∷ ys) (append_nil xs)

pub answers_same : {Y : Type 0} (f : PlanLine → Option Y) (at event : ℕ) → Asks f at event → (plan : List PlanLine) (made : List Made)
    → filter_map f (compacted plan made event) ≡ filter_map f plan
answers_same f at event asks plan made =
    let parts : filter_map f (compacted plan made event) ≡ (filter_map f (front_lines plan event) ++ filter_map f (packing made event)) ++ filter_map f (later_lines plan event)
    = filter_map-append f (front_lines plan event ++ packing made event) (later_lines plan event)
    ∙ ap (λ l. l ++ filter_map f (later_lines plan event)) (filter_map-append f (front_lines plan event) (packing made event)) in
    let middle : filter_map f (packing made event) ≡ [] = packed_silent f event asks.moves 1 1099511627776 made in
    elim (le_or_lt at event) [
      | inl within ↦
          let front : filter_map f (front_lines plan event) ≡ filter_map f plan = kept_all f (is_front event) (front_answers f at event asks within) plan in
          let behind : filter_map f (later_lines plan event) ≡ [] =
          kept_none f (is_later event) (λ line is. asks.elsewhere line (λ e. let after = later_behind event line is in let no : ⊥ = omega (arith, e, after, within) in no)) plan in
          parts ∙ rw (front, middle, behind) (append_nil (filter_map f plan ++ []) ∙ append_nil (filter_map f plan))
      | inr after ↦
          let front : filter_map f (front_lines plan event) ≡ [] =
          kept_none f (is_front event) (λ line is. asks.elsewhere line (λ e. let within = front_within event line is in let no : ⊥ = omega (arith, e, after, within) in no)) plan in
          let behind : filter_map f (later_lines plan event) ≡ filter_map f plan =
          kept_all f (is_later event) (λ line isnt. asks.elsewhere line (λ e. let within = not_later event line isnt in let no : ⊥ = omega (arith, e, after, within) in no)) plan in
          parts ∙ rw (front, middle, behind) refl
    ]

-- ---- flips

any_both : (x a b any : Bool) → (a || b) ≡ any → ((x || a) || (x || b)) ≡ (x || any)
any_both true a b any same = refl
any_both false a b any same = same

any_first : (x a b any : Bool) → (a || b) ≡ any → ((x || a) || b) ≡ (x || any)
any_first true a b any same = refl
any_first false a b any same = same

or_true : (a : Bool) → (a || true) ≡ true
or_true true = refl
or_true false = refl

any_second : (x a b any : Bool) → (a || b) ≡ any → (a || (x || b)) ≡ (x || any)
any_second true a b any same = or_true a
any_second false a b any same = same

any_neither : (x a b any : Bool) → x ≡ false → (a || b) ≡ any → (a || b) ≡ (x || any)
any_neither true a b any isnt same = absurd (cc)
any_neither false a b any isnt same = same

any_step : {X : Type 0} (p : X → Bool) (x : X) (front later xs : List X) (kept behind : Bool) → (kept ≡ false → behind ≡ false → p x ≡ false)
    → (list_any p front || list_any p later) ≡ list_any p xs → (list_any p (cond kept (x ∷ front) front) || list_any p (cond behind (x ∷ later) later)) ≡ (p x || list_any p xs)
any_step p x front later xs true true out same = any_both (p x) (list_any p front) (list_any p later) (list_any p xs) same
any_step p x front later xs true false out same = any_first (p x) (list_any p front) (list_any p later) (list_any p xs) same
any_step p x front later xs false true out same = any_second (p x) (list_any p front) (list_any p later) (list_any p xs) same
any_step p x front later xs false false out same = any_neither (p x) (list_any p front) (list_any p later) (list_any p xs) (out refl refl) same

any_parts : {X : Type 0} (p kept behind : X → Bool) → ((x : X) → kept x ≡ false → behind x ≡ false → p x ≡ false) → (xs : List X)
    → (list_any p (filter kept xs) || list_any p (filter behind xs)) ≡ list_any p xs
any_parts p kept later out [] = refl
any_parts p kept later out (x ∷ xs) = any_step p x (filter kept xs) (filter later xs) xs (kept x) (later x) (out x) (any_parts p kept later out xs)

moves_stay : (event number to : ℕ) (made : List Made) (at : ℕ) → list_any (flips_at at) (packed event number to made) ≡ false
moves_stay event number to [] at = refl
moves_stay event number to (one ∷ rest) at =
    stay_step event number to one rest at (stands_before event one) (moves_stay event (number + 1) (to + one.footprint) rest at) (moves_stay event (number + 1) to rest at)
  where
    stay_step : (event number to : ℕ) (one : Made) (rest : List Made) (at : ℕ) (b : Bool) → list_any (flips_at at) (packed event (number + 1) (to + one.footprint) rest) ≡ false
        → list_any (flips_at at) (packed event (number + 1) to rest) ≡ false
        → list_any (flips_at at) (cond b (Move event number to ∷ packed event (number + 1) (to + one.footprint) rest) (packed event (number + 1) to rest)) ≡ false
    stay_step event number to one rest at true kept left = kept
    stay_step event number to one rest at false kept left = left

nowhere : (at event : ℕ) (line : PlanLine) → is_front event line ≡ false → is_later event line ≡ false → flips_at at line ≡ false
nowhere at event line isnt not_behind = elim (passed event line isnt) [
  | behind after ↦ absurd (let within = not_later event line not_behind in let no : ⊥ = omega (arith, after, within) in no)
  | moves obj to is ↦ ap (flips_at at) is
]

flips_same : (plan : List PlanLine) (made : List Made) (event at : ℕ) → flips (compacted plan made event) at ≡ flips plan at
flips_same plan made event at =
    let p = flips_at at in
    list_any-append p (front_lines plan event ++ packing made event) (later_lines plan event)
    ∙ ap (λ b. b || list_any p (later_lines plan event))
    (list_any-append p (front_lines plan event) (packing made event)
    ∙ ap (λ b. list_any p (front_lines plan event) || b) (moves_stay event 1 1099511627776 made at)
    ∙ or_false (list_any p (front_lines plan event)))
    ∙ any_parts p (is_front event) (is_later event) (λ line isnt not_behind. nowhere at event line isnt not_behind) plan

pub others_stay : OthersStay
others_stay plan made event = record {
  go = λ at. ap (λ tasks. slice_get tasks 0) (answers_same (task_at at) at event (record { elsewhere = task_elsewhere at; moves = λ obj to. refl }) plan made);
  flips = flips_same plan made event;
  group = λ at other. answers_same (move_at at) at event
      (record { elsewhere = move_elsewhere at; moves = λ obj to. rw (ne_eqb event at (λ e. other (sym e))) refl }) plan made;
}
