-- The places of externals in a table.
use Rattle.std.proofs.Common.{◌≡◌, ℕ, zero, suc, ◌+◌, ◌-◌, ◌<◌, ◌≤◌, true, false, ◌==◌, nat_lt, inl, inr, Option, Some, None, refl, sym, ap, ◌∙◌, arith}
use Rattle.std.specs.Option.{IfSome, IfNone, option_map_or}
use Rattle.std.proofs.lemmas.Bool.{cases_lt, lt-ltb, le-ltb, ne_eqb}
use Rattle.std.proofs.lemmas.Bool.Decides.{nat_tests}
use Rattle.ir_ast.specs.declared.types.Ty.TheVariants.{Int, Ptr}
use Rattle.ir_ast.specs.declared.ops.Callee.TheVariants as callee
use Rattle.print_tables.specs.declared.externals.External.{External}
use Rattle.print_tables.specs.declared.externals.External.TheVariants.{New, Print, Read, TaskStart, Poll, Check, Same, StatepointFamily, RelocateFamily, ResultOf, ResultPointer}
use Rattle.print_tables.specs.Externals.{is_callee, is_result, is_statepoints, is_relocates}
use Rattle.print_tables.specs.Called.{plain_external, external_at}

pub external_at-plain : (place : ℕ) → place < 9 → external_at place ≡ plain_external place
unfolding external_at
external_at-plain place low = let test : nat_lt place 9 ≡ true = lt-ltb place 9 low in rw test

pub external_at-width : (place : ℕ) → 9 ≤ place → place < 73 → external_at place ≡ ResultOf (place - 8)
unfolding external_at
external_at-width place low high =
    let past : nat_lt place 9 ≡ false = le-ltb place 9 low in
    let test : nat_lt place 73 ≡ true = lt-ltb place 73 high in
    rw (past, test)

pub external_at-layout : (place : ℕ) → 73 ≤ place → external_at place ≡ New (place - 73)
unfolding external_at
external_at-layout place high =
    let past : nat_lt place 9 ≡ false = le-ltb place 9 (omega arith) in
    let beyond : nat_lt place 73 ≡ false = le-ltb place 73 high in
    rw (past, beyond)

-- what holds of each external at its place
pub by_place : (P : External → ℕ → Type 0) → P Print 0 → P Read 1 → P TaskStart 2 → P Poll 3 → P Check 4 → P Same 5 → P StatepointFamily 6 → P RelocateFamily 7 → P ResultPointer 8
    → ((place : ℕ) → 9 ≤ place → place < 73 → P (ResultOf (place - 8)) place) → ((place : ℕ) → 73 ≤ place → P (New (place - 73)) place) → (place : ℕ) → P (external_at place) place
by_place P p0 p1 p2 p3 p4 p5 p6 p7 p8 widths layouts place =
    elim (cases_lt place 9) [
      | inl low ↦ rw (external_at-plain place low) (plain place low)
      | inr past ↦
          elim (cases_lt place 73) [
            | inl low ↦ rw (external_at-width place past low) (widths place past low)
            | inr high ↦ rw (external_at-layout place high) (layouts place high)
          ]
    ]
  where
    plain : (place : ℕ) → place < 9 → P (plain_external place) place
    plain zero low = p0
    plain (suc zero) low = p1
    plain (suc (suc zero)) low = p2
    plain (suc (suc (suc zero))) low = p3
    plain (suc (suc (suc (suc zero)))) low = p4
    plain (suc (suc (suc (suc (suc zero))))) low = p5
    plain (suc (suc (suc (suc (suc (suc zero)))))) low = p6
    plain (suc (suc (suc (suc (suc (suc (suc zero))))))) low = p7
    plain (suc (suc (suc (suc (suc (suc (suc (suc zero)))))))) low = p8
    plain (suc (suc (suc (suc (suc (suc (suc (suc (suc place))))))))) low = absurd (omega arith)

-- another place
other : (place number : ℕ) → (place ≡ number → ⊥) → false ≡ (place == number)
other place number ne = sym (ne_eqb place number ne)

shifted : (place layout : ℕ) → 73 ≤ place → (place - 73 == layout) ≡ (place == 73 + layout)
shifted place layout high = grind (arith, nat_tests)

pub at-statepoints : (place : ℕ) → is_statepoints (external_at place) ≡ (place == 6)
at-statepoints = by_place (λ external place. is_statepoints external ≡ (place == 6)) refl refl refl refl refl refl refl refl refl (λ place low high. other place 6 (λ is. omega arith)) (λ place high. other place 6 (λ is. omega arith))

pub at-relocates : (place : ℕ) → is_relocates (external_at place) ≡ (place == 7)
at-relocates = by_place (λ external place. is_relocates external ≡ (place == 7)) refl refl refl refl refl refl refl refl refl (λ place low high. other place 7 (λ is. omega arith)) (λ place high. other place 7 (λ is. omega arith))

pub at-fun : (func : _) (place : ℕ) → is_callee (external_at place) (callee.Fun func) ≡ false
at-fun func = by_place (λ external place. is_callee external (callee.Fun func) ≡ false) refl refl refl refl refl refl refl refl refl (λ place low high. refl) (λ place high. refl)

-- a layout stands past the others
before_layouts : (layout place : ℕ) → place < 73 → false ≡ (place == 73 + layout)
before_layouts layout place low = other place (73 + layout) (λ is. omega arith)

pub at-new : (layout place : ℕ) → is_callee (external_at place) (callee.New layout) ≡ (place == 73 + layout)
at-new layout =
    by_place (λ external place. is_callee external (callee.New layout) ≡ (place == 73 + layout))
    (before_layouts layout 0 (omega arith)) (before_layouts layout 1 (omega arith)) (before_layouts layout 2 (omega arith)) (before_layouts layout 3 (omega arith)) (before_layouts layout 4 (omega arith))
    (before_layouts layout 5 (omega arith)) (before_layouts layout 6 (omega arith)) (before_layouts layout 7 (omega arith)) (before_layouts layout 8 (omega arith))
    (λ place low high. before_layouts layout place high) (λ place high. shifted place layout high)

pub at-print : (place : ℕ) → is_callee (external_at place) callee.Print ≡ (place == 0)
at-print = by_place (λ external place. is_callee external callee.Print ≡ (place == 0)) refl refl refl refl refl refl refl refl refl (λ place low high. other place 0 (λ is. omega arith)) (λ place high. other place 0 (λ is. omega arith))

pub at-read : (place : ℕ) → is_callee (external_at place) callee.Read ≡ (place == 1)
at-read = by_place (λ external place. is_callee external callee.Read ≡ (place == 1)) refl refl refl refl refl refl refl refl refl (λ place low high. other place 1 (λ is. omega arith)) (λ place high. other place 1 (λ is. omega arith))

pub at-task_start : (place : ℕ) → is_callee (external_at place) callee.TaskStart ≡ (place == 2)
at-task_start = by_place (λ external place. is_callee external callee.TaskStart ≡ (place == 2)) refl refl refl refl refl refl refl refl refl (λ place low high. other place 2 (λ is. omega arith)) (λ place high. other place 2 (λ is. omega arith))

pub at-poll : (place : ℕ) → is_callee (external_at place) callee.Poll ≡ (place == 3)
at-poll = by_place (λ external place. is_callee external callee.Poll ≡ (place == 3)) refl refl refl refl refl refl refl refl refl (λ place low high. other place 3 (λ is. omega arith)) (λ place high. other place 3 (λ is. omega arith))

pub at-check : (place : ℕ) → is_callee (external_at place) callee.Check ≡ (place == 4)
at-check = by_place (λ external place. is_callee external callee.Check ≡ (place == 4)) refl refl refl refl refl refl refl refl refl (λ place low high. other place 4 (λ is. omega arith)) (λ place high. other place 4 (λ is. omega arith))

pub at-same : (place : ℕ) → is_callee (external_at place) callee.Same ≡ (place == 5)
at-same = by_place (λ external place. is_callee external callee.Same ≡ (place == 5)) refl refl refl refl refl refl refl refl refl (λ place low high. other place 5 (λ is. omega arith)) (λ place high. other place 5 (λ is. omega arith))

pub at-pointer_result : (place : ℕ) → is_result (external_at place) Ptr ≡ (place == 8)
at-pointer_result = by_place (λ external place. is_result external Ptr ≡ (place == 8)) refl refl refl refl refl refl refl refl refl (λ place low high. other place 8 (λ is. omega arith)) (λ place high. other place 8 (λ is. omega arith))

-- a result of a width that stands in the table
widths_shifted : (place width : ℕ) → 9 ≤ place → place < 73 → 1 ≤ width → (place - 8 == width) ≡ (place == 8 + width)
widths_shifted place width low high some = grind (arith, nat_tests)

no_width : (width place : ℕ) → place < 9 → 1 ≤ width → false ≡ (place == 8 + width)
no_width width place low some = other place (8 + width) (λ is. omega arith)

pub at-width_result : (width : ℕ) → 1 ≤ width → width ≤ 64 → (place : ℕ) → is_result (external_at place) (Int width) ≡ (place == 8 + width)
at-width_result width some few =
    by_place (λ external place. is_result external (Int width) ≡ (place == 8 + width))
    (no_width width 0 (omega arith) some) (no_width width 1 (omega arith) some) (no_width width 2 (omega arith) some) (no_width width 3 (omega arith) some) (no_width width 4 (omega arith) some)
    (no_width width 5 (omega arith) some) (no_width width 6 (omega arith) some) (no_width width 7 (omega arith) some) (no_width width 8 (omega arith) some)
    (λ place low high. widths_shifted place width low high some) (λ place high. other place (8 + width) (λ is. omega arith))

-- and of one that doesn't
pub at-other_result : (width : ℕ) → (1 ≤ width → 64 < width) → (place : ℕ) → is_result (external_at place) (Int width) ≡ false
at-other_result width none =
    by_place (λ external place. is_result external (Int width) ≡ false) refl refl refl refl refl refl refl refl refl
    (λ place low high. ne_eqb (place - 8) width (λ is. let wide : 64 < width = none (omega arith) in omega arith)) (λ place high. refl)

-- the place that was found for a width, or that none was
pub at-result : (width : ℕ) (found : Option ℕ) → IfSome found (λ place. (place ≡ 8 + width) × (1 ≤ width) × (width ≤ 64)) → IfNone found (1 ≤ width → 64 < width) → (place : ℕ) → is_result (external_at place) (Int width) ≡ option_map_or (λ named. place == named) found false
at-result width (Some at) some none place = rw some.0 (at-width_result width some.1 some.2 place)
at-result width None some none place = at-other_result width none place

pub external_at-new : (layout : ℕ) → external_at (73 + layout) ≡ New layout
external_at-new layout = let back : 73 + layout - 73 ≡ layout = omega arith in external_at-layout (73 + layout) (omega arith) ∙ ap New back

pub external_at-result : (width : ℕ) (found : Option ℕ) → IfSome found (λ place. (place ≡ 8 + width) × (1 ≤ width) × (width ≤ 64)) → IfSome found (λ place. external_at place ≡ ResultOf width)
external_at-result width (Some place) some =
    let back : place - 8 ≡ width = omega (arith, some.0) in external_at-width place (omega (arith, some.0, some.1)) (omega (arith, some.0, some.2)) ∙ ap ResultOf back
external_at-result width None some = tt
