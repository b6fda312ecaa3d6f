-- Verdicts by their parts.
use Rattle.std.proofs.Common.{◌≡◌, ℕ, Bool, true, false, ◌&&◌, List, [], ◌∷◌, Option, Some, None, refl, ap, cond, eqb, length, suc, arith}
use Rattle.std.proofs.lemmas.Bool.{ne_eqb, eqb-true}
use Rattle.move_plan.specs.declared.plan_lines.Move.{Move}
use Rattle.moving_heap.specs.declared.stands.Stand.{Stand}
use Rattle.moving_heap.specs.declared.stands.Verdict.TheVariants.{Empty, Legal, Illegal}
use Rattle.moving_heap.specs.Places.{apart, moved, no_lines, moves_none, exist, differ, all_fit, verdict_of, is_legal, line_targets, verdict, group_moves, due_moves, moves_of, group_targets}
use Rattle.std.specs.Option.{is_some}

pub not_empty : (stands : List Stand) (lines : List Move) (targets : List (Option ℕ)) (legal : Bool) → (no_lines lines && moves_none targets) ≡ false → is_legal stands lines targets ≡ legal
    → cond legal Legal Illegal ≡ verdict_of stands lines targets
not_empty stands lines targets legal some is = rw (some, is) refl

pub legal_verdict : (stands : List Stand) (lines : List Move) (targets : List (Option ℕ)) (clear : Bool) → (no_lines lines && moves_none targets) ≡ false
    → (exist stands lines && differ lines) ≡ true → all_fit stands targets ≡ true → apart (moved stands targets) ≡ clear → cond clear Legal Illegal ≡ verdict_of stands lines targets
legal_verdict stands lines targets clear some named fits apart_is = not_empty stands lines targets clear some (rw (named, fits, apart_is) refl)

pub nothing_moves : (stands : List Stand) → moves_none (line_targets [] stands) ≡ true
nothing_moves [] = refl
nothing_moves (stand ∷ stands) = nothing_moves stands

pub no_lines_count : (lines : List Move) → eqb (length lines) 0 ≡ no_lines lines
no_lines_count [] = refl
no_lines_count (line ∷ lines) = ne_eqb (suc (length lines)) 0 (λ e. let no : ⊥ = omega arith in no)

lines_none : (lines : List Move) → eqb (length lines) 0 ≡ true → lines ≡ []
lines_none [] e = refl
lines_none (line ∷ lines) e = absurd (let same = eqb-true (suc (length lines)) 0 e in let no : ⊥ = omega arith in no)

pub event_none : (event : Option ℕ) → is_some event ≡ false → event ≡ None
event_none None e = refl
event_none (Some k) e = cc

quiet : (stands : List Stand) → Empty ≡ verdict stands [] None
quiet stands = rw (nothing_moves stands) refl

pub quiet_verdict : (stands : List Stand) (lines : List Move) (event : Option ℕ) → eqb (length lines) 0 ≡ true → is_some event ≡ false → Empty ≡ verdict stands lines event
quiet_verdict stands lines event e s = rw (lines_none lines e, event_none event s) (quiet stands)

pub quiet_moves : (stands : List Stand) (lines : List Move) (event : Option ℕ) → eqb (length lines) 0 ≡ true → is_some event ≡ false → [] ≡ group_moves stands lines event
quiet_moves stands lines event e s = ap (λ v. due_moves v (moves_of stands (group_targets stands lines event))) (quiet_verdict stands lines event e s)
