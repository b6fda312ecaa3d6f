-- What the lines of an event say, of the event's lines alone.
use Rattle.std.proofs.Common.{◌≡◌, refl, ap, sym, ◌∙◌, ℕ, suc, Bool, false, List, [], ◌∷◌, cond, eqb, arith, None, Some, Option, inl, inr}
use Rattle.std.specs.Prelude.{filter, map, slice_get, ◌&&◌, ◌||◌}
use Rattle.std.specs.List.{filter_map, list_any}
use Rattle.std.proofs.lemmas.Bool.{and_right, cases_Bool}
use Rattle.std.proofs.lemmas.Bool.Decides.{nat_tests}
use Rattle.move_plan.specs.declared.plan_lines.PlanLine.{PlanLine}
use Rattle.move_plan.specs.declared.plan_lines.PlanLine.TheVariants.{Every, Move, Flip, Go}
use Rattle.move_plan.specs.Plans.{event_of, flips, flips_at, go, task_at}
use Rattle.move_plan.specs.Tables.{flips_each, is_flip, task_of}
use Rattle.list_laws.proofs.Booleans.{and_true, cond_same}

-- what is kept of the elements that pass
pub filter_map-filter : {X Y : Type 0} (f g : X → Option Y) (p : X → Bool) → ((x : X) → f x ≡ cond (p x) (g x) None) → (xs : List X)
    → filter_map f xs ≡ filter_map g (filter p xs)
filter_map-filter f g p same [] = refl
filter_map-filter f g p same (x ∷ xs) = elim (cases_Bool (p x)) [
  | inl is ↦ rw (same x, is, filter_map-filter f g p same xs) refl
  | inr isnt ↦ rw (same x, isnt, filter_map-filter f g p same xs) refl
]

-- the same where each of these gives a value
pub filter_map-map : {X Y : Type 0} (f : X → Option Y) (v : X → Y) (p : X → Bool) → ((x : X) → f x ≡ cond (p x) (Some (v x)) None) → (xs : List X)
    → filter_map f xs ≡ map v (filter p xs)
filter_map-map f v p same [] = refl
filter_map-map f v p same (x ∷ xs) = elim (cases_Bool (p x)) [
  | inl is ↦ rw (same x, is, filter_map-map f v p same xs) refl
  | inr isnt ↦ rw (same x, isnt, filter_map-map f v p same xs) refl
]

pub filter-filter : {X : Type 0} (p q : X → Bool) (xs : List X) → filter p (filter q xs) ≡ filter (λ x. q x && p x) xs
filter-filter p q [] = refl
filter-filter p q (x ∷ xs) = elim (cases_Bool (q x)) [
  | inl is ↦ elim (cases_Bool (p x)) [
    | inl both ↦ rw (is, both) (ap (λ ys. x ∷ ys) (filter-filter p q xs))
    | inr one ↦ rw (is, one) (filter-filter p q xs)
  ]
  | inr isnt ↦ rw isnt (filter-filter p q xs)
]

-- ---- `go`

task_at-event : (k : ℕ) (line : PlanLine) → task_at k line ≡ cond (eqb (event_of line) k) (task_of line) None
task_at-event k (Every period) = sym (cond_same (eqb 0 k) None)
task_at-event k (Move event obj to) = sym (cond_same (eqb event k) None)
task_at-event k (Flip event) = sym (cond_same (eqb event k) None)
task_at-event k (Go event task) = refl

pub go-event : (plan : List PlanLine) (k : ℕ) → go plan k ≡ slice_get (filter_map task_of (filter (λ line. eqb (event_of line) k) plan)) 0
go-event plan k = ap (λ xs. slice_get xs 0) (filter_map-filter (task_at k) task_of (λ line. eqb (event_of line) k) (task_at-event k) plan)

-- ---- flips

-- no line is `every`
abbrev NoEvery : List PlanLine → Type 0
NoEvery plan = (place period : ℕ) → slice_get plan place ≡ Some (Every period) → ⊥

any_filter : {X : Type 0} (p q : X → Bool) (xs : List X) → list_any p (filter q xs) ≡ list_any (λ x. q x && p x) xs
any_filter p q [] = refl
any_filter p q (x ∷ xs) = elim (cases_Bool (q x)) [
  | inl is ↦ rw is (ap (λ b. p x || b) (any_filter p q xs))
  | inr isnt ↦ rw isnt (any_filter p q xs)
]

flips_at-line : (k : ℕ) (line : PlanLine) (rest : List PlanLine) → NoEvery (line ∷ rest) → flips_at k line ≡ (eqb (event_of line) k && is_flip line)
flips_at-line k (Every period) rest none = absurd (none 0 period refl)
flips_at-line k (Move event obj to) rest none = grind (arith, nat_tests)
flips_at-line k (Flip event) rest none = grind (arith, nat_tests)
flips_at-line k (Go event task) rest none = grind (arith, nat_tests)

flips-lines : (k : ℕ) (plan : List PlanLine) → NoEvery plan → list_any (flips_at k) plan ≡ list_any (λ line. eqb (event_of line) k && is_flip line) plan
flips-lines k [] none = refl
flips-lines k (line ∷ rest) none =
    rw (flips_at-line k line rest none, flips-lines k rest (λ place period at. none (suc place) period at)) refl

-- an event flips by the line `every`, or by a line of its own
pub flips-event : (plan : List PlanLine) (k : ℕ) → ((place period : ℕ) → slice_get plan place ≡ Some (Every period) → place ≡ 0)
    → flips plan k ≡ (flips_each plan k || list_any is_flip (filter (λ line. eqb (event_of line) k) plan))
flips-event plan k first = by plan first ∙ ap (λ b. flips_each plan k || b) (sym (any_filter is_flip (λ line. eqb (event_of line) k) plan))
  where
    behind : (line : PlanLine) (rest : List PlanLine) → ((place period : ℕ) → slice_get (line ∷ rest) place ≡ Some (Every period) → place ≡ 0) → NoEvery rest
    behind line rest first = λ place period at. omega (arith, first (suc place) period at)

    by : (plan : List PlanLine) → ((place period : ℕ) → slice_get plan place ≡ Some (Every period) → place ≡ 0)
        → flips plan k ≡ (flips_each plan k || list_any (λ line. eqb (event_of line) k && is_flip line) plan)
    by [] first = refl
    by (Every period ∷ rest) first = rw (flips-lines k rest (behind (Every period) rest first), and_right (eqb 0 k) false refl) refl
    by (Move event obj to ∷ rest) first = rw (flips-lines k rest (behind (Move event obj to) rest first), and_right (eqb event k) false refl) refl
    by (Flip event ∷ rest) first = rw (flips-lines k rest (behind (Flip event) rest first), and_true (eqb event k)) refl
    by (Go event task ∷ rest) first = rw (flips-lines k rest (behind (Go event task) rest first), and_right (eqb event k) false refl) refl

pub flips-own : (plan : List PlanLine) (k : ℕ) → ((place period : ℕ) → slice_get plan place ≡ Some (Every period) → place ≡ 0) → flips_each plan k ≡ false
    → flips plan k ≡ list_any is_flip (filter (λ line. eqb (event_of line) k) plan)
flips-own plan k first none = flips-event plan k first ∙ ap (λ b. b || list_any is_flip (filter (λ line. eqb (event_of line) k) plan)) none
