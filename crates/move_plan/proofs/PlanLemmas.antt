-- Plans that grow by a line.
use Rattle.std.proofs.Common.{◌≡◌, refl, ap, sym, subst, ◌∙◌, ℕ, zero, suc, ◌-◌, ◌<◌, ◌≤◌, true, false, List, [], ◌∷◌, ◌++◌, length, get_or, arith, eqb, None, Some, Option, inl, inr}
use Rattle.std.specs.Prelude.{slice_get}
use Rattle.std.specs.List.{cons_option, filter_map}
use Rattle.std.specs.Option.{is_some, option_map_or}
use Rattle.std.specs.List.Sorted.{IsNonDecreasingBy}
use Rattle.std.proofs.lemmas.Bool.{cases_eq, eq-eqb, ne_eqb}
use Rattle.std.proofs.lemmas.Bool.Decides.{nat_tests}
use Rattle.std.proofs.lemmas.List.{length_push}
use Rattle.std.proofs.lemmas.List.Elements.{All-push}
use Rattle.std.proofs.lemmas.List.Sorted.{IsNonDecreasingBy-push, IsNonDecreasingBy-short}
use Rattle.std.proofs.lemmas.Option.{none-some, same_Some, slice_get-get_or, slice_get_within, get_or_from_slice_get}
use Rattle.move_plan.specs.declared.plan_lines.PlanLine.{PlanLine}
use Rattle.move_plan.specs.declared.plan_lines.PlanLine.TheVariants.{Every, Move, Flip, Go}
use Rattle.move_plan.specs.PlanLines.{IsInRange}
use Rattle.move_plan.specs.Plans.{event_of, go, task_at, IsPlan}
use Rattle.move_plan.specs.Steps.{is_empty, is_late, is_second_go, last_event, MayFollow}
use Rattle.list_laws.proofs.Places.{pushed_cases}

-- ---- places of a list with one more element

-- ---- `go` lines

pub go-contains : (plan : List PlanLine) (place event task : ℕ) → slice_get plan place ≡ Some (Go event task) → is_some (go plan event) ≡ true
go-contains [] place event task at = absurd (none-some (Go event task) at)
go-contains (line ∷ rest) zero event task at =
    let same : line ≡ Go event task = same_Some line (Go event task) at in
    let own : eqb event event ≡ true = eq-eqb event event refl in
    rw (same, own) refl
go-contains (line ∷ rest) (suc place) event task at = by (task_at event line) (go-contains rest place event task at)
  where
    by : (o : Option ℕ) → is_some (slice_get (filter_map (task_at event) rest) 0) ≡ true → is_some (slice_get (cons_option o (filter_map (task_at event) rest)) 0) ≡ true
    by None more = more
    by (Some t) more = refl

pub go-from : (plan : List PlanLine) (event : ℕ) → is_some (go plan event) ≡ true → (place : ℕ) × (task : ℕ) × (slice_get plan place ≡ Some (Go event task))
go-from [] event some = absurd (cc)
go-from (Every period ∷ rest) event some = (let more = go-from rest event some in (suc more.0, more.1, more.2))
go-from (Move at obj to ∷ rest) event some = (let more = go-from rest event some in (suc more.0, more.1, more.2))
go-from (Flip at ∷ rest) event some = (let more = go-from rest event some in (suc more.0, more.1, more.2))
go-from (Go at task ∷ rest) event some = elim (cases_eq at event) [
  | inl same ↦ (0, task, ap (λ e. Some (Go e task)) same)
  | inr other ↦ (let apart : eqb at event ≡ false = ne_eqb at event other in
      let more = go-from rest event (rw apart at some) in (suc more.0, more.1, more.2))
]

-- ---- the last line

pub last_event-is : (plan : List PlanLine) → 0 < length plan → (d : PlanLine) → last_event plan ≡ event_of (get_or plan (length plan - 1) d)
last_event-is plan some d = ap (λ (o : Option PlanLine). option_map_or event_of o 0) (slice_get-get_or plan (length plan - 1) d (omega arith))

-- no line's event is above it
pub event-le-last : (plan : List PlanLine) (place : ℕ) (what : PlanLine) → IsNonDecreasingBy event_of plan → slice_get plan place ≡ Some what → event_of what ≤ last_event plan
event-le-last plan place what up at =
    let within : place < length plan = slice_get_within plan place what at in
    let order = up place (length plan - 1) what (omega arith) (omega arith) in
    let here : event_of (get_or plan place what) ≡ event_of what = ap event_of (get_or_from_slice_get plan place what what at) in
    let last = last_event-is plan (omega arith) what in
    omega (arith, order, here, last)

-- a line with that event, where it isn't 0
pub last-from : (plan : List PlanLine) → 0 < last_event plan → (place : ℕ) × (what : PlanLine) × (slice_get plan place ≡ Some what) × (event_of what ≡ last_event plan)
last-from [] some = absurd (omega arith)
last-from (line ∷ rest) some =
    let whole : List PlanLine = line ∷ rest in
    let place = length whole - 1 in
    (place, get_or whole place line, slice_get-get_or whole place line (omega arith), sym (last_event-is whole (omega arith) line))

pub some-from : (plan : List PlanLine) → is_empty plan ≡ false → (place : ℕ) × (what : PlanLine) × (slice_get plan place ≡ Some what)
some-from [] some = absurd (cc)
some-from (line ∷ rest) some = (0, line, refl)

-- ---- one more line

rises_push : (plan : List PlanLine) (what : PlanLine) → IsNonDecreasingBy event_of plan → (0 < length plan → last_event plan ≤ event_of what) → IsNonDecreasingBy event_of (plan ++ what ∷ [])
rises_push plan what up above =
    IsNonDecreasingBy-push event_of plan what up (λ d some. omega (arith, above some, last_event-is plan some d))

-- a line in order is above the last one
in_order : (plan : List PlanLine) (what : PlanLine) → is_late plan what ≡ false → 0 < length plan → last_event plan ≤ event_of what
in_order [] what late some = absurd (omega arith)
in_order (line ∷ rest) (Every period) late some = absurd (cc)
in_order (line ∷ rest) (Move event obj to) late some = grind (arith, nat_tests, late)
in_order (line ∷ rest) (Flip event) late some = grind (arith, nat_tests, late)
in_order (line ∷ rest) (Go event task) late some = grind (arith, nat_tests, late)

every_alone : (plan : List PlanLine) (period : ℕ) → is_late plan (Every period) ≡ false → length plan ≡ 0
every_alone [] period late = refl
every_alone (line ∷ rest) period late = absurd (cc)

pub plan_push : (plan : List PlanLine) (what : PlanLine) → IsPlan plan → IsInRange what → MayFollow plan (Some what) → length plan < 262144 → IsPlan (plan ++ what ∷ [])
plan_push plan what is fits follows room = record {
  in_range = All-push IsInRange plan what is.in_range fits;
  rises = rises_push plan what is.rises (in_order plan what follows.0);
  every_first = λ place period at. elim (pushed_cases plan what place (Every period) at) [
    | inl among ↦ is.every_first place period among
    | inr last ↦ last.0 ∙ every_alone plan period (subst (λ (one : PlanLine). is_late plan one ≡ false) last.1 follows.0)
  ];
  one_go = λ place other event task another at also. elim (pushed_cases plan what place (Go event task) at) [
    | inl among ↦ elim (pushed_cases plan what other (Go event another) also) [
      | inl both ↦ is.one_go place other event task another among both
      | inr last ↦ absurd (second place event task another among last.1)
    ]
    | inr last ↦ elim (pushed_cases plan what other (Go event another) also) [
      | inl among ↦ absurd (second other event another task among last.1)
      | inr both ↦ last.0 ∙ sym both.0
    ]
  ];
  few = omega (arith, length_push plan what);
}
  where
    second : (place event task another : ℕ) → slice_get plan place ≡ Some (Go event task) → what ≡ Go event another → ⊥
    second place event task another among same =
        let not : is_some (go plan event) ≡ false = subst (λ (one : PlanLine). is_second_go plan one ≡ false) same follows.1 in
        let some = go-contains plan place event task among in
        cc

pub plan_none : IsPlan []
plan_none = record {
  in_range = λ k d fits. absurd (omega (arith, fits));
  rises = IsNonDecreasingBy-short event_of [] (omega arith);
  every_first = λ place period at. absurd (none-some (Every period) at);
  one_go = λ place other event task another at also. absurd (none-some (Go event task) at);
  few = omega arith;
}
